-- The words of a new task are in its block before it is in the chain.
use Rattle.std.proofs.Common.{◌≡◌, ℕ, ◌+◌, ◌-◌, ◌<◌, List, [], ◌++◌, drop, get_or, length, cond, true, sym, ap, ◌∙◌, subst, arith}
use Rattle.std.proofs.lemmas.List.{length-append}
use Rattle.kernel_lists.specs.OwnedWords.Owned.{Holds, row_from}
use Rattle.kernel_lists.proofs.OwnedWords.OwnedWords.{Holds-append, Holds-left, Holds-right}
use Rattle.kernel_lists.proofs.OwnedWords.RowWords.{Holds-row}
use Rattle.kernel_lists.specs.PacketQueue.QueueWords.{queue_words}
use Rattle.kernel_lists.specs.Coroutines.CoroutineExchanges.{words_of_coroutines}
use Rattle.kernel_model.specs.KernelRecord.Lists.{Lists}
use Rattle.kernel_model.specs.KernelRecord.Task.{Task, filled, is_guest_id, other_words, queue_head}
use Rattle.kernel_model.specs.KernelRecord.Versions.{head_words_of}
use Rattle.kernel_calls.specs.CallAnswers.Tasks.{no_coroutines}
use Rattle.kernel_calls.specs.TaskCalls.CreateTask.{new_task}
use Rattle.kernel_calls.specs.TaskCalls.Private.NewTasks.{first_words, head_row}
use Rattle.kernel_lists.proofs.HunkLoader.ModuleExchanges.{row-append}

module _ (s : List ℕ) (l : Lists) (number : ℕ) (modules : List ℕ) (u pri maker : ℕ) (guest : is_guest_id number ≡ true) where
  abbrev t : Task
  t = new_task l number modules u pri maker

  abbrev head : ℕ
  head = head_words_of l.version

  abbrev further : List ℕ
  further = filled (head - 23) (drop 1 modules)

  abbrev fixed : List ℕ
  fixed = first_words head t.address number modules u pri maker

  pub new_words-held : (rest : List ℕ) → Holds s (row_from t.address 0 (head_row head t.address number modules u pri maker ++ rest)) → Holds s (other_words l.version t)
  new_words-held rest h = (
    word 1 (omega arith),
    (
      word 2 (omega arith),
      (
        word 4 (omega arith),
        (
          word 5 (omega arith),
          (
            word 6 (omega arith) ∙ sym (ap (λ b. cond b (t.address + head + 1001) 0) guest),
            (
              word 7 (omega arith),
              (
                word 8 (omega arith) ∙ sym (ap (λ b. cond b (t.address + head) 0) guest),
                (
                  word 9 (omega arith),
                  (
                    word 10 (omega arith),
                    (
                      word 11 (omega arith),
                      (
                        word 12 (omega arith),
                        (
                          word 13 (omega arith),
                          (
                            word 14 (omega arith),
                            (
                              word 15 (omega arith),
                              (
                                word 16 (omega arith),
                                (
                                  word 21 (omega arith),
                                  (
                                    word 22 (omega arith),
                                    Holds-append s (row_from t.address 23 (cond (is_guest_id number) further [])) (queue_words (queue_head t.address) [] ++ words_of_coroutines t.address no_coroutines)
                                        (subst (λ b. Holds s (row_from t.address 23 (cond b further []))) (sym guest) modules_held)
                                        (word 3 (omega arith), (word 18 (omega arith), (word 19 (omega arith), (word 20 (omega arith), (word 17 (omega arith), tt))))),
                                  ),
                                ),
                              ),
                            ),
                          ),
                        ),
                      ),
                    ),
                  ),
                ),
              ),
            ),
          ),
        ),
      ),
    ),
  )
    where
      word : (j : ℕ) → j < 23 → get_or s (t.address + j) 0 ≡ get_or (fixed ++ (further ++ rest)) j 0
      word j few =
          let none : j ≡ 0 + j = omega arith in
          ap (λ z. get_or s (t.address + z) 0) none ∙ Holds-row s t.address 0 (fixed ++ (further ++ rest)) j h (omega (arith, few, length-append fixed (further ++ rest)))

      modules_held : Holds s (row_from t.address 23 further)
      modules_held =
          let behind : Holds s (row_from t.address 23 (further ++ rest)) =
          Holds-right s (row_from t.address 0 fixed) (row_from t.address 23 (further ++ rest)) (subst (Holds s) (row-append t.address 0 fixed (further ++ rest)) h)
          in
          Holds-left s (row_from t.address 23 further) (row_from t.address (23 + length further) rest) (subst (Holds s) (row-append t.address 23 further rest) behind)
