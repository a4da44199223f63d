-- Members in an entry: how they are spelled, and how many there are.
use Rattle.std.proofs.Common.{◌≡◌, ◌≤◌, ℕ, List, [], ◌∷◌, ◌++◌, length, refl, ap, arith}
use Rattle.std.specs.Int.{w32}
use Rattle.cp_codec.specs.Fields.{big_endian}
use Rattle.cp_grammar.specs.Lists.{items_spelling}
use Rattle.cp_grammar.specs.Common as common
use Rattle.cp_grammar.specs.Common.{member_after}
use Rattle.cp_log_rules.specs.Persistent.{PersistentState}
use Rattle.cp_rules.specs.declared.change.Change.{Change}
use Rattle.cp_rules.specs.Changes.{changed, with_member, without_member}
use Rattle.cp_rules.specs.Persistent.{members}
use Rattle.cp_rules_facts.proofs.Basics.{either}
use Rattle.cp_rules_ranges.specs.Ranges.{StoredIsInRange}
use Rattle.cp_rules_ranges.proofs.Members.{after_fits, few_members, no_more, one_more}

items_spelled : (before ms : List ℕ) → items_spelling member_after before ms ≡ ms
unfolding items_spelling member_after
items_spelled before [] = refl
items_spelled before (m ∷ ms) = ap (λ l. m ∷ l) (items_spelled (before ++ m ∷ []) ms)

-- their number, and a byte for each
pub members_spelled : (ms : List ℕ) → common.members.spelling ms ≡ big_endian w32 (length ms) ++ ms
unfolding common.members
members_spelled ms = ap (λ l. big_endian w32 (length ms) ++ l) (items_spelled [] ms)

pub few : (p : PersistentState) → StoredIsInRange p → length (members p) ≤ 9
few p stored = few_members (members p) (after_fits p.base_config p.base p.log stored.members)

pub changed_few : (change : Change) (ms : List ℕ) → length ms ≤ 9 → length (changed change ms) ≤ 10
changed_few change ms h = either (λ (l : List ℕ). length l ≤ 10) change.add (with_member change.member.0 ms) (without_member change.member.0 ms)
    (λ e. omega (arith, one_more change.member.0 ms, h))
    (λ e. omega (arith, no_more change.member.0 ms, h))
