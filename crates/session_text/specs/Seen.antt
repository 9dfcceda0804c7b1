-- The statements that the code makes, as the definitions see them.
use Rattle.session_text.specs.Statements.{Statement as Stated, File, Task, At, Key, Go, fields}
use Rattle.session_text.specs.declared.statements.Statement.{Statement}
use Rattle.session_text.specs.declared.statements.Statement.TheVariants.{File as FileSlice, Task as TaskSlices, At as AtSlice, Key as KeyByte, Go as GoSteps}

-- each statement, with its slices of the line as bytes
abbrev pub seen : Statement → Stated
seen (FileSlice name) = File name.now
seen (TaskSlices id pri stack names) = Task id pri stack (fields names.now)
seen (AtSlice step text) = At step text.now
seen (KeyByte step byte) = Key step byte
seen (GoSteps steps) = Go steps
