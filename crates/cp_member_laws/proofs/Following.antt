-- What a rule of a member does: it writes so many parts at most, and it refuses nobody of a key.
use Rattle.std.proofs.Common.{◌≡◌, ◌≤◌, ℕ, suc, ◌+◌, ◌⊎◌, inl, inr, ◌≢◌, suc-ne-zero, Bool, true, false, List, [], ◌∷◌, ◌++◌, length, refl, sym, ap, ◌∙◌, append_assoc, append-nil, length-append, le_refl, arith, if◌then◌else◌}
use Rattle.std.specs.Prelude.{◌==◌, fold}
use Rattle.std.proofs.lemmas.Bool.Decides.{eqb_tells}
use Rattle.cp_parts.specs.declared.part.Part.{Part}
use Rattle.cp_log_rules.specs.Durable.{DurableState, with_part}
use Rattle.cp_member_rules.specs.MemberSteps.{MemberStep, wrote_nothing}
use Rattle.cp_member_rules.specs.Letters.{Letter}
use Rattle.cp_member_laws.specs.Runs.{tells_key}
use Rattle.cp_member_laws.proofs.Telling.{no_true, Clear, clear_append}

abbrev pub with_parts : DurableState → List Part → DurableState
with_parts s parts = fold (λ (s : DurableState) (part : Part). with_part part s) s parts

pub with_more : (s : DurableState) (xs ys : List Part) → with_parts s (xs ++ ys) ≡ with_parts (with_parts s xs) ys
with_more s [] ys = refl
with_more s (x ∷ xs) ys = with_more (with_part x s) xs ys

not_zero : (n : ℕ) → (suc n == 0) ≡ false
not_zero n = by (eqb_tells (suc n) 0) where
  by : (((suc n == 0) ≡ true) × (suc n ≡ 0)) ⊎ (((suc n == 0) ≡ false) × (suc n ≢ 0)) → (suc n == 0) ≡ false
  by (inl h) = absurd (suc-ne-zero n h.1)
  by (inr h) = h.0

module _ (key : ℕ → ℕ → ℕ → Bool) where
  -- from d to e, at most n parts
  pub record Follows (n : ℕ) (d e : MemberStep) : Type 0 where
    pub news : List Part
    pub said : List Letter
    pub few : length news ≤ n
    pub parts : e.parts ≡ d.parts ++ news
    pub stored : e.state.stored ≡ with_parts d.state.stored news
    pub restart : e.state.stored.restart ≡ d.state.stored.restart
    pub attempts : e.state.attempts ≡ d.state.attempts
    pub sent : e.sent ≡ d.sent ++ said
    pub clear : Clear (tells_key key) said

  -- nothing at all
  pub same : (d : MemberStep) → Follows 0 d d
  same d = record {
    news = [];
    said = [];
    few = le_refl 0;
    parts = sym (append-nil d.parts);
    stored = refl;
    restart = refl;
    attempts = refl;
    sent = sym (append-nil d.sent);
    clear = refl;
  }

  pub relax : (n m : ℕ) (d e : MemberStep) → n ≤ m → Follows n d e → Follows m d e
  relax n m d e less f = record {
    news = f.news;
    said = f.said;
    few = omega (arith, less, f.few);
    parts = f.parts;
    stored = f.stored;
    restart = f.restart;
    attempts = f.attempts;
    sent = f.sent;
    clear = f.clear;
  }

  pub joined : (n m : ℕ) (c d e : MemberStep) → Follows n c d → Follows m d e → Follows (n + m) c e
  joined n m c d e f g = record {
    news = f.news ++ g.news;
    said = f.said ++ g.said;
    few = let sum = length-append f.news g.news in omega (arith, sum, f.few, g.few);
    parts = g.parts ∙ ap (λ (l : List Part). l ++ g.news) f.parts ∙ append_assoc c.parts f.news g.news;
    stored = g.stored ∙ ap (λ (s : DurableState). with_parts s g.news) f.stored ∙ sym (with_more c.state.stored f.news g.news);
    restart = g.restart ∙ f.restart;
    attempts = g.attempts ∙ f.attempts;
    sent = g.sent ∙ ap (λ (l : List Letter). l ++ g.said) f.sent ∙ append_assoc c.sent f.said g.said;
    clear = clear_append (tells_key key) f.said g.said f.clear g.clear;
  }

  pub either : (n : ℕ) (d : MemberStep) (b : Bool) (x y : MemberStep) → Follows n d x → Follows n d y → Follows n d (if b then x else y)
  either n d true x y h k = h
  either n d false x y h k = k

  -- where nothing was written before and after, nothing is written
  pub tight : (n : ℕ) (d e : MemberStep) → wrote_nothing d ≡ true → wrote_nothing e ≡ true → Follows n d e → Follows 0 d e
  tight n d e before after f = record {
    news = f.news;
    said = f.said;
    few = by d.parts e.parts f.news before after f.parts;
    parts = f.parts;
    stored = f.stored;
    restart = f.restart;
    attempts = f.attempts;
    sent = f.sent;
    clear = f.clear;
  } where
    by : (xs ys news : List Part) → wrote_nothing (record d { parts = xs }) ≡ true → wrote_nothing (record e { parts = ys }) ≡ true → ys ≡ xs ++ news → length news ≤ 0
    by [] [] [] h k e = le_refl 0
    by [] [] (x ∷ news) h k e = absurd cc
    by [] (y ∷ ys) news h k e = absurd (no_true (sym k ∙ not_zero (length ys)))
    by (x ∷ xs) ys news h k e = absurd (no_true (sym h ∙ not_zero (length xs)))

  -- what was written stays so
  pub stays_written : (n : ℕ) (d e : MemberStep) → wrote_nothing d ≡ false → Follows n d e → wrote_nothing e ≡ false
  stays_written n d e before f = by d.parts e.parts before f.parts where
    by : (xs ys : List Part) → wrote_nothing (record d { parts = xs }) ≡ false → ys ≡ xs ++ f.news → wrote_nothing (record e { parts = ys }) ≡ false
    by [] ys h k = absurd cc
    by (x ∷ xs) [] h k = absurd cc
    by (x ∷ xs) (y ∷ ys) h k = not_zero (length ys)
