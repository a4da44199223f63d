-- What comes may come at each step.
use Rattle.std.proofs.Common.{◌≡◌, ℕ, true≢false, [], ◌∷◌, List, Option, Some, None, refl, subst, sym}
use Rattle.std.specs.Prelude.{IsSome, slice_index}
use Rattle.std.specs.Option.{option_map, ForSome}
use Rattle.cp_grammar.specs.Grammar.{whole}
use Rattle.cp_grammar.specs.Fields.{mark_reading}
use Rattle.cp_parts.specs.Configs.{config_in, members_entry}
use Rattle.cp_agreement_facts.specs.Entries.{members_in}
use Rattle.cp_log_rules.specs.Persistent.{PersistentState}
use Rattle.cp_rules.specs.Local.{Body, Event, Got}
use Rattle.cp_rules.specs.Volatile.{VolatileState}
use Rattle.cp_rules_ranges.specs.Laws.{MayStep, MayGoOn}
use Rattle.cp_rules_ranges.specs.Ranges.{IsMember}
use Rattle.cp_raft.specs.Taking.{NamesMember}
use Rattle.cp_three_members.specs.Coming.{MayCome, IsSaid}

pub may_step : (me : ℕ) (p : PersistentState) (v : VolatileState) (o : Option Event) → MayGoOn me p v → ForSome o MayCome → ForSome o (λ e. MayStep me p v e)
may_step me p v o g c = λ x is. record { member = g.member; sound = g.sound; range = g.range; fair = (c x is).fair p v; comes = (c x is).comes v }

pub names : (o : Option Event) → ForSome o MayCome → ForSome o (λ e. NamesMember e)
names o c = λ x is. (c x is).names

pub got_is : (from : ℕ) (o : Option Body) → IsSaid o → IsSome (option_map (Got from) o)
got_is from None s = elim s [ ]
got_is from (Some body) s = refl

pub got_comes : (from : ℕ) (o : Option Body) → IsMember from → IsSaid o → ForSome (option_map (Got from) o) MayCome
got_comes from None m s = elim s [ ]
got_comes from (Some body) m s = λ x is. let same : Got from body ≡ x = cc in subst MayCome same (record { fair = λ p v. tt; comes = λ v. (m, s); names = tt })

-- what holds of each event that there is holds where there is one
pub for_one : {P : Type 0} (o : Option Event) → IsSome o → ((e : Event) → o ≡ Some e → P) → P
for_one None is f = absurd (true≢false (sym is))
for_one (Some e) is f = f e refl

-- an entry whose first byte is 1 brings no configuration
begun_is_plain : (bytes : List ℕ) → members_in (1 ∷ bytes) ≡ None
unfolding members_in config_in members_entry whole mark_reading
begun_is_plain bytes = refl

pub call_is_plain : (bytes : List ℕ) → slice_index bytes 0 ≡ 1 → members_in bytes ≡ None
call_is_plain [] e = absurd (cc)
call_is_plain (b ∷ bytes) e = subst (λ (c : ℕ). members_in (c ∷ bytes) ≡ None) (sym e) (begun_is_plain bytes)
