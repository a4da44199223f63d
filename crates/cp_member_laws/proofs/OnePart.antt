-- One event writes at most one part.
use Rattle.std.proofs.Common.{◌≡◌, ◌≤◌, ℕ, inl, inr, List, length, refl, sym, ap, ◌∙◌, le_trans, le_of_eq, le_refl, zero-le}
use Rattle.std.specs.Prelude.{is_ok}
use Rattle.cp_grammar.specs.Grammar.{whole}
use Rattle.cp_ops.specs.Ops.{op_grammar}
use Rattle.cp_parts.specs.declared.part.Part.{Part}
use Rattle.cp_member_rules.specs.MemberSteps.{MemberStep, unmoved}
use Rattle.cp_member_rules.specs.Machines.{Machines, Setup}
use Rattle.cp_member_rules.specs.Steps.{MemberEvent, member_step}
use Rattle.cp_member_rules.specs.Members.{MemberState}
use Rattle.cp_member_rules.specs.Letters.{Request}
use Rattle.cp_member_rules.specs.Requesting.{attempted}
use Rattle.cp_member_laws.specs.Runs.{request_in}
use Rattle.cp_member_laws.specs.Laws.{StoresAtMostOne}
use Rattle.cp_member_laws.proofs.Following.{Follows, with_parts}
use Rattle.cp_member_laws.proofs.Requesting.{Answered, Left, Taken, nobody}
use Rattle.cp_member_laws.proofs.Happening.{Goes, Plain, Asked, goes}

module _ {V : Type 0} (ms : Machines V) (setup : Setup) (me : ℕ) where
  pub one_part : (member : MemberState) (event : MemberEvent) → StoresAtMostOne ms setup me member event
  one_part member event = by (goes ms setup me nobody member event) where
    e : MemberStep
    e = member_step ms setup me member event

    stores : (n : ℕ) (d : MemberState) → n ≤ 1 → d.stored ≡ member.stored → Follows nobody n (record (unmoved member) { state = d }) e → StoresAtMostOne ms setup me member event
    stores n d few same f = record {
      one = le_trans (le_of_eq (ap (λ (l : List Part). length l) f.parts)) (le_trans f.few few);
      stored = f.stored ∙ ap (λ s. with_parts s f.news) same ∙ ap (with_parts member.stored) (sym f.parts);
      restart = f.restart ∙ ap (λ s. s.restart) same;
    }

    answered : (r : Request) → Answered ms setup me nobody r (is_ok (whole op_grammar r.op)) (unmoved member) e → StoresAtMostOne ms setup me member event
    answered r (Left h same f) = stores 0 member zero-le refl f
    answered r (Taken h (inl f)) = stores 1 (attempted r member) (le_refl 1) refl f
    answered r (Taken h (inr f)) = stores 0 (attempted r member) zero-le refl f.0

    by : Goes ms setup me nobody (request_in me event) (unmoved member) e → StoresAtMostOne ms setup me member event
    by (Plain none f) = stores 1 member (le_refl 1) refl f
    by (Asked r some a) = answered r a
