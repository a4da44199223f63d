-- The header is lawful before a text that begins with none of its lines.
use Rattle.std.proofs.Common.{ℕ, List, ◌++◌, refl, append_assoc, arith}
use Rattle.std.specs.Prelude.{codes, Option}
use Rattle.cp_codec.specs.Exact.{IsByte}
use Rattle.cp_grammar.specs.Grammar.{Grammar, ◌then◌, seq, checked}
use Rattle.cp_grammar.specs.Lawful.{IsLawful}
use Rattle.cp_grammar.specs.Laws.{one_field_lawful}
use Rattle.cp_grammar.specs.WordLaws.{lawful_text}
use Rattle.cp_events.specs.declared.plan.HoldLimit.{HoldLimit}
use Rattle.cp_events.specs.declared.plan.Groups.{Groups}
use Rattle.cp_events.specs.declared.plan.ReadsBy.{ReadsBy}
use Rattle.cp_call_words.specs.Values.{between_word}
use Rattle.cp_call_words.specs.ValueLaws.{name_word_lawful}
use Rattle.cp_schedule.specs.Fronts.{behind}
use Rattle.cp_schedule.specs.Header.{opening, size_line, clients_line, snapshot_line, groups_words, which_groups, may_have, groups_line, may_follow, one_limit, limit_line, limit_lines, reads_words, which_reads, reads_line, header_behind, header, plan_of, lines_of}
use Rattle.cp_schedule.proofs.FrontLaws.{IsLawfulBefore, Avoids, before_all, after_lawful, optional_lawful, seq_before, mapped_before, lines_lawful, lines_avoid, optional_avoids}

pub opening_lawful : IsLawful IsByte opening
unfolding opening
opening_lawful = search (lawful_text, after_lawful)

size_lawful : (members : ℕ) → IsLawful IsByte (size_line members)
unfolding size_line
size_lawful members = search (lawful_text, after_lawful)

clients_lawful : IsLawful IsByte clients_line
unfolding clients_line
clients_lawful = search (lawful_text, after_lawful)

groups_words_lawful : IsLawful IsByte groups_words
unfolding groups_words
groups_words_lawful = search lawful_text depth 12

groups_lawful : IsLawful IsByte which_groups
unfolding which_groups
groups_lawful = one_field_lawful IsByte groups_words groups_words_lawful

reads_words_lawful : IsLawful IsByte reads_words
unfolding reads_words
reads_words_lawful = search lawful_text depth 12

reads_lawful : IsLawful IsByte which_reads
unfolding which_reads
reads_lawful = one_field_lawful IsByte reads_words reads_words_lawful

limit_lawful : (before : List HoldLimit) → IsLawful IsByte (checked one_limit (may_follow before))
limit_lawful before = search (lawful_text, name_word_lawful) depth 12

-- a text that begins with no line that may be left out of a header
pub record IsBehindHeader (ts : List ℕ) : Type 0 where
  pub no_snapshot : Avoids (codes "snapshot ") ts
  pub no_groups : Avoids (codes "groups ") ts
  pub no_limit : Avoids (codes "limit ") ts
  pub no_reads : Avoids (codes "reads ") ts

weaker : {A : Type 0} (May Must : List ℕ → Type 0) → ((ts : List ℕ) → Must ts → May ts) → (g : Grammar ℕ A) → IsLawfulBefore May g → IsLawfulBefore Must g
weaker May Must is g law = record { again = λ x rest must fits. law.again x rest (is rest must) fits; takes = law.takes }

-- ---- no line begins as another

groups_no_snapshot : (ts : List ℕ) → Avoids (codes "snapshot ") (codes "groups " ++ ts)
unfolding behind
groups_no_snapshot ts = refl

limit_no_snapshot : (ts : List ℕ) → Avoids (codes "snapshot ") (codes "limit " ++ ts)
unfolding behind
limit_no_snapshot ts = refl

reads_no_snapshot : (ts : List ℕ) → Avoids (codes "snapshot ") (codes "reads " ++ ts)
unfolding behind
reads_no_snapshot ts = refl

limit_no_groups : (ts : List ℕ) → Avoids (codes "groups ") (codes "limit " ++ ts)
unfolding behind
limit_no_groups ts = refl

reads_no_groups : (ts : List ℕ) → Avoids (codes "groups ") (codes "reads " ++ ts)
unfolding behind
reads_no_groups ts = refl

reads_no_limit : (ts : List ℕ) → Avoids (codes "limit ") (codes "reads " ++ ts)
unfolding behind
reads_no_limit ts = refl

-- ---- what the last lines spell avoids what their own lines avoid

limits_avoid : (other : List ℕ) → ((ts : List ℕ) → Avoids other (codes "limit " ++ ts)) → ((ts : List ℕ) → Avoids other (codes "reads " ++ ts))
    → (y : List HoldLimit × Option ReadsBy) (rest : List ℕ) → Avoids other rest → Avoids other ((limit_lines then reads_line).spelling y ++ rest)
unfolding limit_lines limit_line reads_line
limits_avoid other limit_apart reads_apart y rest may =
    rw (append_assoc (limit_lines.spelling y.0) (reads_line.spelling y.1) rest) (lines_avoid (codes "limit ") (omega arith) (λ b. checked one_limit (may_follow b)) limit_lawful other limit_apart y.0 (reads_line.spelling y.1 ++ rest)
    (optional_avoids (codes "reads ") which_reads other reads_apart y.1 rest may))

groups_avoid : (members : ℕ) (other : List ℕ) → ((ts : List ℕ) → Avoids other (codes "groups " ++ ts)) → ((ts : List ℕ) → Avoids other (codes "limit " ++ ts)) → ((ts : List ℕ) → Avoids other (codes "reads " ++ ts))
    → (y : Option Groups × (List HoldLimit × Option ReadsBy)) (rest : List ℕ) → Avoids other rest → Avoids other ((groups_line members then limit_lines then reads_line).spelling y ++ rest)
unfolding groups_line
groups_avoid members other groups_apart limit_apart reads_apart y rest may =
    rw (append_assoc ((groups_line members).spelling y.0) ((limit_lines then reads_line).spelling y.1) rest)
    (optional_avoids (codes "groups ") (checked which_groups (may_have members)) other groups_apart y.0 ((limit_lines then reads_line).spelling y.1 ++ rest) (limits_avoid other limit_apart reads_apart y.1 rest may))

-- ---- the lines that may be left out, from the last to the first

reads_part : IsLawfulBefore IsBehindHeader reads_line
unfolding reads_line
reads_part = weaker (Avoids (codes "reads ")) IsBehindHeader (λ ts may. may.no_reads) reads_line (optional_lawful (codes "reads ") which_reads reads_lawful)

limits_only : IsLawfulBefore (Avoids (codes "limit ")) limit_lines
unfolding limit_lines limit_line
limits_only = lines_lawful (codes "limit ") (omega arith) (λ b. checked one_limit (may_follow b)) limit_lawful

reads_follow : (y : Option ReadsBy) (rest : List ℕ) → IsBehindHeader rest → Avoids (codes "limit ") (reads_line.spelling y ++ rest)
unfolding reads_line
reads_follow y rest may = optional_avoids (codes "reads ") which_reads (codes "limit ") reads_no_limit y rest may.no_limit

limits_part : IsLawfulBefore IsBehindHeader (limit_lines then reads_line)
limits_part = seq_before (Avoids (codes "limit ")) IsBehindHeader limit_lines (λ _. reads_line) limits_only (λ _. reads_part) (λ x y rest may fits. reads_follow y rest may)

groups_only : (members : ℕ) → IsLawfulBefore (Avoids (codes "groups ")) (groups_line members)
unfolding groups_line
groups_only members = optional_lawful (codes "groups ") (checked which_groups (may_have members)) (search (lawful_text, groups_lawful))

groups_part : (members : ℕ) → IsLawfulBefore IsBehindHeader (groups_line members then limit_lines then reads_line)
groups_part members =
    seq_before (Avoids (codes "groups ")) IsBehindHeader (groups_line members) (λ _. limit_lines then reads_line) (groups_only members) (λ _. limits_part)
    (λ x y rest may fits. limits_avoid (codes "groups ") limit_no_groups reads_no_groups y rest may.no_groups)

snapshot_number : IsLawful IsByte (between_word 10 1 1000000)
snapshot_number = search lawful_text

snapshot_only : IsLawfulBefore (Avoids (codes "snapshot ")) snapshot_line
unfolding snapshot_line
snapshot_only = optional_lawful (codes "snapshot ") (between_word 10 1 1000000) snapshot_number

snapshot_part : (members : ℕ) → IsLawfulBefore IsBehindHeader (snapshot_line then groups_line members then limit_lines then reads_line)
snapshot_part members =
    seq_before (Avoids (codes "snapshot ")) IsBehindHeader snapshot_line (λ _. groups_line members then limit_lines then reads_line) snapshot_only (λ _. groups_part members)
    (λ x y rest may fits. groups_avoid members (codes "snapshot ") groups_no_snapshot limit_no_snapshot reads_no_snapshot y rest may.no_snapshot)

-- ---- the lines that always stand

abbrev pub anywhere : List ℕ → Type 0
anywhere ts = Unit {0}

behind_lawful : (members : ℕ) → IsLawfulBefore IsBehindHeader (header_behind members)
unfolding header_behind
behind_lawful members =
    seq_before anywhere IsBehindHeader (size_line members) (λ _. clients_line then snapshot_line then groups_line members then limit_lines then reads_line) (before_all anywhere (size_line members) (size_lawful members))
    (λ _. seq_before anywhere IsBehindHeader clients_line (λ _. snapshot_line then groups_line members then limit_lines then reads_line) (before_all anywhere clients_line clients_lawful) (λ _. snapshot_part members) (λ x y rest may fits. tt))
    (λ x y rest may fits. tt)

pub header_lawful : IsLawfulBefore IsBehindHeader header
unfolding header
header_lawful =
    mapped_before IsBehindHeader (seq opening header_behind) (seq_before anywhere IsBehindHeader opening header_behind (before_all anywhere opening opening_lawful) behind_lawful (λ x y rest may fits. tt)) plan_of lines_of (λ x. refl)
