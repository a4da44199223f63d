-- What is known of rows that were read.
use Rattle.std.proofs.Common.{ℕ, List, Result, Ok, Err}
use Rattle.std.specs.Prelude.{IfOk}
use Rattle.std.specs.Borrow.{Bor}
use Rattle.std.specs.List.{AllByRecursion}
use Rattle.cp_codec.specs.Exact.{IsByte}
use Rattle.cp_grammar.specs.declared.stop.Stop.{Stop}
use Rattle.cp_grammar.specs.declared.stop.ReadError.{ReadError}
use Rattle.cp_grammar.specs.Readers.{Gives}
use Rattle.cp_group_state.specs.GroupState.{GroupState}
use Rattle.cp_group_ranges.specs.States.{IsSound}
use Rattle.cp_state_bytes.specs.declared.version.Version.{Version}
use Rattle.cp_state_bytes.proofs.Listed.{session_list_facts, semaphore_list_facts, waiter_list_facts}
use Rattle.cp_state_bytes.specs.declared.group_rows.GroupRows.{GroupRows}
use Rattle.cp_state_bytes.specs.GroupRows.{state_of, Restores}
use Rattle.cp_state_bytes.specs.States.{owners, objects, calls, lists_in, restored, HasCounts}
use Rattle.cp_state_bytes.specs.Sums.{AreListed}
use Rattle.cp_state_bytes.proofs.StateLaws.{lists_lawful}
use Rattle.cp_state_bytes.proofs.Sound.{are_sound}

listed : (version : Version) (s : GroupState) → (lists_in version).Fits s → AreListed s
unfolding lists_in owners objects calls
listed version s h =
    let semaphores = semaphore_list_facts s.semaphores.rows h.0.0.1.1.1.0 in
    record {
      sessions = (session_list_facts s.sessions h.0.0.1.0).rising;
      semaphores = semaphores.rising;
      permits = semaphores.each;
      waiters = (waiter_list_facts s.waiters h.0.1.1.0).0;
    }

pub known : (version : Version) (bytes : List ℕ) (r : Result (GroupRows × Bor (List ℕ)) Stop) → AllByRecursion IsByte bytes → Gives (λ x. (state_of x.0, x.1.now)) r ((lists_in version).reading bytes) → IfOk r (λ x. AreListed (state_of x.0))
known version bytes (Ok x) good gives = listed version (state_of x.0) ((lists_lawful version).takes bytes (state_of x.0) x.1.now good gives).1
known version bytes (Err e) good gives = tt

pub is_sound : (bytes : List ℕ) (r : Result GroupRows ReadError) → AllByRecursion IsByte bytes → Restores r (restored bytes) → IfOk r (λ rows. IsSound (state_of rows) × HasCounts (state_of rows))
is_sound bytes (Ok rows) good told = are_sound bytes (state_of rows) good told
is_sound bytes (Err e) good told = tt
