-- Holdings out of rows, one behind the other.
use Rattle.std.proofs.Common.{◌≡◌, ℕ, Bool, true, false, List, [], ◌∷◌, ◌++◌, refl, ap, sym, ◌∙◌, subst, append_assoc, if◌then◌else◌}
use Rattle.std.specs.Prelude.{◌==◌}
use Rattle.cp_group_state.specs.Rows.{holding_cmp, put, without}
use Rattle.cp_group_state.specs.Semaphores.{set_held}
use Rattle.cp_group_state.specs.Invariants.{IsRising}
use Rattle.cp_group_state.proofs.Ordered.{holding_total}
use Rattle.cp_rows.proofs.Changes.{put_last}
use Rattle.cp_resource.specs.States.{HoldSome}

Held : Type 0
Held = List ((ℕ × List ℕ) × ℕ)

chosen : (b : Bool) (x y : Held) → b ≡ false → (if b then x else y) ≡ y
unfolding Held
chosen true x y e = cc
chosen false x y e = refl

pub held_last : (old new rest : List ((ℕ × List ℕ) × ℕ)) (session n : ℕ) (name : List ℕ) → new ≡ set_held old session name n
    → IsRising holding_cmp (old ++ ((session, name), n) ∷ rest) → (n == 0) ≡ false → new ≡ old ++ ((session, name), n) ∷ []
unfolding Held
held_last old new rest session n name e rising some = e
    ∙ chosen (n == 0) (without holding_cmp old (session, name)) (put holding_cmp old (session, name) n) some
    ∙ put_last holding_cmp holding_total old rest (session, name) n rising

-- what stands and what is to come are the same rows, when the first row to come is appended
pub goes_on : (stand next left rest rows : List ((ℕ × List ℕ) × ℕ)) (k : ℕ × List ℕ) (n : ℕ)
    → ((rest : List ((ℕ × List ℕ) × ℕ)) → IsRising holding_cmp (stand ++ (k, n) ∷ rest) → (n == 0) ≡ false → next ≡ stand ++ (k, n) ∷ [])
    → IsRising holding_cmp rows → stand ++ left ≡ rows → left ≡ (k, n) ∷ rest → HoldSome left → next ++ rest ≡ rows
goes_on stand next left rest rows k n put rising all first some =
    let whole : stand ++ (k, n) ∷ rest ≡ rows = ap (λ (r : List ((ℕ × List ℕ) × ℕ)). stand ++ r) (sym first) ∙ all in
    let more : HoldSome ((k, n) ∷ rest) = subst HoldSome first some in
    ap (λ (r : List ((ℕ × List ℕ) × ℕ)). r ++ rest) (put rest (subst (λ (r : List ((ℕ × List ℕ) × ℕ)). IsRising holding_cmp r) (sym whole) rising) more.0) ∙ append_assoc stand ((k, n) ∷ []) rest ∙ whole

pub rest_holds : (left rest : List ((ℕ × List ℕ) × ℕ)) (e : (ℕ × List ℕ) × ℕ) → left ≡ e ∷ rest → HoldSome left → HoldSome rest
rest_holds left rest e first some = let more : HoldSome (e ∷ rest) = subst HoldSome first some in more.1
