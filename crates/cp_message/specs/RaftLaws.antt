-- The grammars of what members say to each other are lawful.
use Rattle.std.specs.Prelude.{ℕ, ◌<◌, ◌-◌, ◌^◌, min}
use Rattle.std.proofs.Common.{arith, refl}
use Rattle.cp_base.specs.declared.limits.TheConstants.{LAST_NUMBER, MOST_ENTRIES, MOST_ENTRY}
use Rattle.cp_codec.specs.Exact.{IsByte}
use Rattle.cp_grammar.specs.Lawful.{IsLawful}
use Rattle.cp_grammar.specs.Grammar.{◌then◌}
use Rattle.cp_grammar.specs.Fields.{bytes}
use Rattle.cp_grammar.specs.Lists.{each}
use Rattle.cp_grammar.specs.Laws.{mapped_lawful, then_lawful}
use Rattle.cp_grammar.specs.ListLaws.{listed_lawful, each_lawful}
use Rattle.cp_grammar.specs.FieldLaws.{lawful, bytes_lawful, u32_lawful}
use Rattle.cp_grammar.specs.Common.{index}
use Rattle.cp_grammar.specs.CommonLaws.{index_lawful, group_lawful}
use Rattle.cp_message.specs.Votes.{vote_request, vote_reply}
use Rattle.cp_message.specs.Entries.{log_entry, entry_count, entries_after}
use Rattle.cp_message.specs.Appends.{append_within, append_newest, append_reply}
use Rattle.cp_message.specs.Snapshots.{chunk_grammar, snapshot_reply}
use Rattle.cp_message.specs.Confirms.{confirm_grammar, confirmed_grammar}

pub vote_request_lawful : IsLawful IsByte vote_request
unfolding vote_request
vote_request_lawful = search (lawful, group_lawful, index_lawful) depth 12

pub vote_reply_lawful : IsLawful IsByte vote_reply
unfolding vote_reply
vote_reply_lawful = search (lawful, group_lawful, index_lawful) depth 12

pub log_entry_lawful : (most : ℕ) → most < 2 ^ 32 → IsLawful IsByte (log_entry most)
unfolding log_entry
log_entry_lawful most below = mapped_lawful IsByte (index then bytes most) (then_lawful IsByte index index_lawful (bytes most) (bytes_lawful most below)) _ _ (λ _ _. refl)

entry_count_lawful : (previous : ℕ) → IsLawful IsByte (entry_count previous)
entry_count_lawful previous = u32_lawful (min MOST_ENTRIES (LAST_NUMBER - previous)) (omega arith)

pub entries_lawful : (most : ℕ) → most < 2 ^ 32 → (previous : ℕ) → IsLawful IsByte (entries_after most previous)
unfolding entries_after
entries_lawful most below previous = listed_lawful IsByte (each (log_entry most)) (each_lawful IsByte (log_entry most) (log_entry_lawful most below)) (entry_count previous) (entry_count_lawful previous)

pub append_lawful : (most : ℕ) → most < 2 ^ 32 → IsLawful IsByte (append_within most)
unfolding append_within
append_lawful most below = search (lawful, group_lawful, index_lawful, entries_lawful most below) depth 14

pub append_newest_lawful : IsLawful IsByte append_newest
append_newest_lawful = append_lawful MOST_ENTRY (omega arith)

pub append_reply_lawful : IsLawful IsByte append_reply
unfolding append_reply
append_reply_lawful = search (lawful, group_lawful, index_lawful) depth 12

pub chunk_lawful : IsLawful IsByte chunk_grammar
unfolding chunk_grammar
chunk_lawful = search (lawful, group_lawful, index_lawful) depth 14

pub snapshot_reply_lawful : IsLawful IsByte snapshot_reply
unfolding snapshot_reply
snapshot_reply_lawful = search (lawful, group_lawful, index_lawful) depth 14

pub confirm_lawful : IsLawful IsByte confirm_grammar
unfolding confirm_grammar
confirm_lawful = search (lawful, group_lawful, index_lawful) depth 12

pub confirmed_lawful : IsLawful IsByte confirmed_grammar
unfolding confirmed_grammar
confirmed_lawful = search (lawful, group_lawful, index_lawful) depth 12
