-- What a prepared change makes of the store's memory.
use Rattle.std.specs.Prelude.{◌≡◌, ◌≤◌, ◌<◌, ◌^◌, Bool, true, false, map, Some, IsSome, IsSomeAnd}
use Rattle.std.specs.Ordering.{nat_cmp}
use Rattle.std.specs.BTreeMap.{get, is_at}
use Rattle.std.specs.Map.{keys_of, remove_entry}
use Rattle.std.specs.Set.{remove_key}
use Rattle.cp_base.specs.declared.limits.TheConstants.{LAST_NUMBER}
use Rattle.cp_base.specs.declared.identifier.GroupId.{GroupId}
use Rattle.cp_parts.specs.declared.part.Part.{Part}
use Rattle.cp_parts.specs.declared.part.Part.TheVariants as part
use Rattle.cp_log_rules.specs.Persistent.{with_ballot, with_entries, with_head}
use Rattle.cp_log_rules.specs.Durable.{DurableState, with_group}
use Rattle.cp_log.specs.declared.change.Change.{Change}
use Rattle.cp_log.specs.declared.change.Change.TheVariants as change
use Rattle.cp_log.specs.declared.durable.Durable.{Durable}
use Rattle.cp_log.specs.Durables.{durable_of}
use Rattle.cp_log.specs.Rows.{FitsBehind}

-- the state after the change is applied
abbrev pub committed : Change → DurableState → DurableState
committed (change.Start restart format) s = record s { restart = restart; format = format }
committed (change.Ballot group term vote) s = with_group group (with_ballot term vote) s
committed (change.Entries group term vote after entries configs) s = with_group group (with_entries term vote after entries.items) s
committed (change.Snapshot group term vote index bytes head) s = with_group group (with_head term vote index bytes (Some head)) s
committed (change.Begun group numbers) s = s
committed (change.Ended group) s = record s { groups = remove_entry (is_at (nat_cmp group)) s.groups }

-- the state after the change is given up
abbrev pub cancelled : Change → DurableState → DurableState
cancelled (change.Start restart format) s = s
cancelled (change.Ballot group term vote) s = s
cancelled (change.Entries group term vote after entries configs) s = s
cancelled (change.Snapshot group term vote index bytes head) s = s
cancelled (change.Begun group numbers) s = record s { groups = remove_entry (is_at (nat_cmp group)) s.groups }
cancelled (change.Ended group) s = record s { ended = remove_key (is_at (nat_cmp group)) s.ended }

-- the change fits the store's memory, and there is room for it
abbrev pub Fits : Change → Durable → Type 0
Fits (change.Start restart format) s = restart ≤ LAST_NUMBER
Fits (change.Ballot group term vote) s = IsSome (get nat_cmp s.rows group)
Fits (change.Entries group term vote after entries configs) s = IsSomeAnd (get nat_cmp s.rows group) (FitsBehind after entries configs)
Fits (change.Snapshot group term vote index bytes head) s = IsSomeAnd (get nat_cmp s.rows group) (λ row. row.base < index) × (index ≤ LAST_NUMBER)
Fits (change.Begun group numbers) s = map (λ (g : GroupId). g.0) numbers.items ≡ remove_key (is_at (nat_cmp group)) (keys_of s.rows.entries)
Fits (change.Ended group) s = Unit {0}

-- a change that was prepared: applied it gives one state, and given up it gives another
pub record IsReady (c : Change) (now : Durable) (before after : DurableState) : Type 0 where
  pub applied : committed c (durable_of now) ≡ after
  pub given_up : cancelled c (durable_of now) ≡ before
  pub fits : Fits c now

abbrev pub is_state : Part → Bool
is_state (part.Start restart) = false
is_state (part.State group term vote) = true
is_state (part.Append group term vote after entries) = false
is_state (part.Begin group first) = false
is_state (part.End group) = false
is_state (part.Snapshot group term vote index bytes) = false
is_state (part.Start2 restart) = false
