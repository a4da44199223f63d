-- What was written restores to the machine.
use Rattle.std.proofs.Common.{◌≡◌, ℕ, List, ◌++◌}
use Rattle.std.specs.Prelude.{Result, Ok, Err, OnOk}
use Rattle.cp_meta_state.specs.MetaState.{MetaState}
use Rattle.cp_meta.specs.Bytes.{restored, spelled}

pub written : {A E : Type 0} (r : Result A E) (s : MetaState) (old new : List ℕ) → OnOk r (new ≡ old ++ spelled s) → OnOk r (restored (spelled s) ≡ Ok s)
    → OnOk r ((text : List ℕ) × (new ≡ old ++ text) × (restored text ≡ Ok s))
written (Ok x) s old new bytes back = (spelled s, bytes, back)
written (Err e) s old new bytes back = tt
