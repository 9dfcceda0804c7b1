use Rattle.tripos_machine.proofs.PacketHistory.ValidCalls.{append-valid, close-valid, delete-valid, open_read-valid, open_write-valid, read-valid, rename-valid}
use Rattle.tripos_machine.proofs.packet_history.valid_discs.call_law.Goals as goal

pub returns-clause-open_read : goal.returns-clause-open_read
returns-clause-open_read c = λ d name shell valid. open_read-valid d valid name shell

pub returns-clause-open_write : goal.returns-clause-open_write
returns-clause-open_write c = λ d name valid lawful. open_write-valid d valid name lawful

pub returns-clause-read : goal.returns-clause-read
returns-clause-read c = λ d k count valid. read-valid d valid k count

pub returns-clause-append : goal.returns-clause-append
returns-clause-append c = λ d k bytes valid. append-valid d valid k bytes

pub returns-clause-close : goal.returns-clause-close
returns-clause-close c = λ d k valid. close-valid d valid k

pub returns-clause-delete : goal.returns-clause-delete
returns-clause-delete c = λ d name valid. delete-valid d valid name

pub returns-clause-rename : goal.returns-clause-rename
returns-clause-rename c = λ d from to valid lawful. rename-valid d valid from to lawful
