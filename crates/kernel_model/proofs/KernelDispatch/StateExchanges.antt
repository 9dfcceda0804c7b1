-- Exchanges among the words of a task: its state, its saved registers, and its work queue.
use Rattle.std.proofs.Common.{ℕ, ◌+◌, List, [], ◌∷◌, ◌++◌, arith}
use Rattle.word_store.specs.declared.registers.Regs.{Regs}
use Rattle.kernel_lists.specs.OwnedWords.Exchange.{Exchange, Splits}
use Rattle.kernel_lists.specs.OwnedWords.LinkedWords.{first_of}
use Rattle.kernel_lists.specs.OwnedWords.Owned.{Pairs, row_from}
use Rattle.kernel_lists.proofs.OwnedWords.Exchanges.{exchange-both, exchange-left, exchange-right, exchange-row}
use Rattle.kernel_lists.specs.PacketQueue.QueueWords.{QueuedPacket, queue_words}
use Rattle.kernel_lists.specs.Coroutines.CoroutineExchanges.{words_of_coroutines}
use Rattle.kernel_model.specs.KernelRecord.Task.{Task, fault_words, globals_of, name_words, queue_head, stack_of, state_word, state_words, task_words}
use Rattle.kernel_model.specs.KernelDispatch.Private.DispatchWords.{saved_words}

-- the state and the saved registers of the words 4 to 16 of a task block
module _ (a w5 w6 w7 w8 w9 w10 : ℕ) where
  splits-saved : (w4 w11 w12 w13 w14 w15 w16 : ℕ) → Splits (row_from a 4 (w4 ∷ w5 ∷ w6 ∷ w7 ∷ w8 ∷ w9 ∷ w10 ∷ w11 ∷ w12 ∷ w13 ∷ w14 ∷ w15 ∷ w16 ∷ [])) (row_from a 5 (w5 ∷ w6 ∷ w7 ∷ w8 ∷ w9 ∷ w10 ∷ [])) ((a + 4, w4) ∷ (a + 16, w16) ∷ (a + 15, w15) ∷ (a + 14, w14) ∷ (a + 13, w13) ∷ (a + 12, w12) ∷ (a + 11, w11) ∷ [])
  splits-saved w4 w11 w12 w13 w14 w15 w16 =
      record {
        count = λ b. omega arith;
        opens = λ s h. ((h.1.0, (h.1.1.0, (h.1.1.1.0, (h.1.1.1.1.0, (h.1.1.1.1.1.0, (h.1.1.1.1.1.1.0, tt)))))), (h.0, (h.1.1.1.1.1.1.1.1.1.1.1.1.0, (h.1.1.1.1.1.1.1.1.1.1.1.0, (h.1.1.1.1.1.1.1.1.1.1.0, (h.1.1.1.1.1.1.1.1.1.0, (h.1.1.1.1.1.1.1.1.0, (h.1.1.1.1.1.1.1.0, tt))))))));
        closes = λ s h k. (k.0, (h.0, (h.1.0, (h.1.1.0, (h.1.1.1.0, (h.1.1.1.1.0, (h.1.1.1.1.1.0, (k.1.1.1.1.1.1.0, (k.1.1.1.1.1.0, (k.1.1.1.1.0, (k.1.1.1.0, (k.1.1.0, (k.1.0, tt)))))))))))));
      }

  pub exchange-saved : (w4 w11 w12 w13 w14 w15 w16 v4 v11 v12 v13 v14 v15 v16 : ℕ)
      → Exchange (row_from a 4 (w4 ∷ w5 ∷ w6 ∷ w7 ∷ w8 ∷ w9 ∷ w10 ∷ w11 ∷ w12 ∷ w13 ∷ w14 ∷ w15 ∷ w16 ∷ []))
      (row_from a 4 (v4 ∷ w5 ∷ w6 ∷ w7 ∷ w8 ∷ w9 ∷ w10 ∷ v11 ∷ v12 ∷ v13 ∷ v14 ∷ v15 ∷ v16 ∷ []))
      ((a + 4, w4) ∷ (a + 16, w16) ∷ (a + 15, w15) ∷ (a + 14, w14) ∷ (a + 13, w13) ∷ (a + 12, w12) ∷ (a + 11, w11) ∷ []) ((a + 4, v4) ∷ (a + 16, v16) ∷ (a + 15, v15) ∷ (a + 14, v14) ∷ (a + 13, v13) ∷ (a + 12, v12) ∷ (a + 11, v11) ∷ [])
  exchange-saved w4 w11 w12 w13 w14 w15 w16 v4 v11 v12 v13 v14 v15 v16 =
      record {
        rest = row_from a 5 (w5 ∷ w6 ∷ w7 ∷ w8 ∷ w9 ∷ w10 ∷ []);
        first = splits-saved w4 w11 w12 w13 w14 w15 w16;
        then' = splits-saved v4 v11 v12 v13 v14 v15 v16;
      }

-- the words of a task, of which those of its state and of its queue are exchanged
pub exchange-task : (version : ℕ) (t : Task) (f : ℕ) (r : Regs) (qs : List QueuedPacket) (n : ℕ) (old new old' new' : Pairs)
    → Exchange (state_words version t) (state_words version (record t { field = f; saved = r; queue = qs })) old new
    → Exchange (queue_words (queue_head t.address) t.queue) (queue_words (queue_head t.address) qs) old' new'
    → Exchange (task_words version t n) (task_words version (record t { field = f; saved = r; queue = qs }) n) (old ++ old') (new ++ new')
exchange-task version t f r qs n old new old' new' state queue =
    let frames : Pairs = words_of_coroutines t.address t.coroutines in
    let head : ℕ = queue_head t.address in
    exchange-right ((t.address, n) ∷ []) _ _ _ _
    (exchange-right (name_words t) _ _ _ _
    (exchange-both (state_words version t) _ old new (fault_words version t ++ (queue_words head t.queue ++ frames)) _ old' new' state
    (exchange-right (fault_words version t) _ _ _ _ (exchange-left (queue_words head t.queue) (queue_words head qs) frames old' new' queue))))

-- the state alone
pub exchange-state : (version : ℕ) (t : Task) (f : ℕ) (qs : List QueuedPacket)
    → Exchange (state_words version t) (state_words version (record t { field = f; queue = qs })) ((t.address + 4, state_word t) ∷ []) ((t.address + 4, state_word (record t { field = f; queue = qs })) ∷ [])
exchange-state version t f qs =
    exchange-row t.address 4 (state_word t) (state_word (record t { field = f; queue = qs })) []
    (t.flags ∷ stack_of version t ∷ t.highest ∷ globals_of version t ∷ t.maker ∷ first_of (λ m. m) t.modules 0 ∷ t.saved.a ∷ t.saved.b ∷ t.saved.c ∷ t.saved.p ∷ t.saved.g ∷ t.saved.pc ∷ [])

-- the state and the saved registers
pub exchange-suspended : (version : ℕ) (t : Task) (f : ℕ) (r : Regs)
    → Exchange (state_words version t) (state_words version (record t { field = f; saved = r }))
    (saved_words t.address (state_word t) t.saved) (saved_words t.address (state_word (record t { field = f; saved = r })) r)
exchange-suspended version t f r = exchange-saved t.address _ _ _ _ _ _ (state_word t) t.saved.a t.saved.b t.saved.c t.saved.p t.saved.g t.saved.pc (state_word (record t { field = f; saved = r })) r.a r.b r.c r.p r.g r.pc
