-- The lines behind the header: events, `settle` and `end`.
use Rattle.std.specs.Prelude.{ℕ, ◌-◌, ◌^◌, nat_le, List, Option, Some, None, codes}
use Rattle.cp_base.specs.declared.identifier.MemberNo.{MemberNo}
use Rattle.cp_base.specs.declared.identifier.ClientNo.{ClientNo}
use Rattle.cp_base.specs.declared.identifier.ThreadNo.{ThreadNo}
use Rattle.cp_grammar.specs.Grammar.{Grammar, always, one_field, checked, variant, seq, ◌then◌, keyed, mapped, case, no_case}
use Rattle.cp_grammar.specs.Words.{Token, token, keyword, number_word}
use Rattle.cp_grammar.specs.Lists.{until}
use Rattle.cp_events.specs.declared.user_op.UserOp.{UserOp}
use Rattle.cp_events.specs.declared.event.Event.{Event}
use Rattle.cp_events.specs.declared.event.Event.TheVariants as event
use Rattle.cp_events.specs.declared.schedule.Line.{Line}
use Rattle.cp_events.specs.declared.schedule.Line.TheVariants as line
use Rattle.cp_call_words.specs.Values.{between_word, member_word, milliseconds}
use Rattle.cp_call_words.specs.declared.context.Context.{Context}
use Rattle.cp_call_words.specs.Calls.{user_op}
use Rattle.cp_schedule.specs.Fronts.{after, ended_number}

-- ---- numbers

unfoldable pub client_word : ℕ → Grammar ℕ ClientNo
client_word end = mapped (λ n. record { 0 = n }) (λ c. c.0) (between_word end 1 16)

unfoldable pub thread_word : ℕ → Grammar ℕ ThreadNo
thread_word end = mapped (λ n. record { 0 = n }) (λ t. t.0) (between_word end 1 8)

-- any decimal number
abbrev pub any_number : ℕ → Grammar ℕ ℕ
any_number end = number_word end (2 ^ 63 - 1)

-- ---- a crash: at once, or once the disk has let so many calls pass

-- `after W choice X`
unfoldable pub stop_words : Grammar ℕ (ℕ × ℕ)
stop_words = after (codes "after ") (any_number 32) then after (codes "choice ") (any_number 10)

abbrev pub crash_end : Option (ℕ × ℕ) → ℕ
crash_end None = 10
crash_end (Some _) = 32

-- what follows the member, by the end after it
abbrev pub crash_cases : ℕ → Grammar ℕ (Option (ℕ × ℕ))
crash_cases = case 10 (always None) (case 32 (variant Some (λ stop. stop) stop_words) no_case)

-- which member, and the end after its number
abbrev pub crashing : Grammar ℕ (ℕ × ℕ)
crashing = checked (ended_number 9) (λ m. nat_le 1 m.0)

abbrev pub Crash : Type 0
Crash = ℕ × Option (ℕ × ℕ)

-- `M`, or `M after W choice X`
unfoldable pub crash_words : Grammar ℕ Crash
crash_words = mapped (λ p. (p.0.0, p.1)) (λ c. ((c.0, crash_end c.1), c.1)) (seq crashing (λ m. crash_cases m.1))

-- ---- lines by their first words

abbrev pub event_word : Event → Token
event_word event.Open = (codes "open", 10)
event_word (event.Tick m ms) = (codes "tick", 32)
event_word (event.ClientTick c ms) = (codes "ctick", 32)
event_word (event.Call c t o) = (codes "call", 32)
event_word (event.Deliver k) = (codes "deliver", 32)
event_word (event.Crash m) = (codes "crash", 32)
event_word (event.CrashAfter m w x) = (codes "crash", 32)
event_word (event.Start m) = (codes "start", 32)

abbrev pub line_word : Option Line → Token
line_word None = (codes "end", 10)
line_word (Some (line.Settle n)) = (codes "settle", 32)
line_word (Some (line.One e)) = event_word e

abbrev pub line_tick : Option Line → Option (MemberNo × ℕ)
line_tick (Some (line.One (event.Tick m ms))) = Some (m, ms)
line_tick _ = None

abbrev pub line_ctick : Option Line → Option (ClientNo × ℕ)
line_ctick (Some (line.One (event.ClientTick c ms))) = Some (c, ms)
line_ctick _ = None

abbrev pub line_call : Option Line → Option (ClientNo × (ThreadNo × UserOp))
line_call (Some (line.One (event.Call c t o))) = Some (c, (t, o))
line_call _ = None

abbrev pub line_deliver : Option Line → Option ℕ
line_deliver (Some (line.One (event.Deliver k))) = Some k
line_deliver _ = None

abbrev pub line_settle : Option Line → Option ℕ
line_settle (Some (line.Settle n)) = Some n
line_settle _ = None

abbrev pub line_crash : Option Line → Option Crash
line_crash (Some (line.One (event.Crash m))) = Some (m.0, None)
line_crash (Some (line.One (event.CrashAfter m w x))) = Some (m.0, Some (w, x))
line_crash _ = None

abbrev pub crash_of : ℕ → Option (ℕ × ℕ) → Event
crash_of m None = event.Crash (record { 0 = m })
crash_of m (Some stop) = event.CrashAfter (record { 0 = m }) stop.0 stop.1

abbrev pub line_start : Option Line → Option MemberNo
line_start (Some (line.One (event.Start m))) = Some m
line_start _ = None

-- The words of a line, or of `end`, which reads as none.
unfoldable pub line_words : Context → Grammar ℕ (Option Line)
line_words context = keyed line_word token
    (keyword (codes "call") 32 (variant (λ p. Some (line.One (event.Call p.0 p.1.0 p.1.1))) line_call (client_word 32 then thread_word 32 then user_op context))
    (keyword (codes "tick") 32 (variant (λ p. Some (line.One (event.Tick p.0 p.1))) line_tick (member_word 32 then milliseconds 10))
    (keyword (codes "ctick") 32 (variant (λ p. Some (line.One (event.ClientTick p.0 p.1))) line_ctick (client_word 32 then milliseconds 10))
    (keyword (codes "deliver") 32 (variant (λ k. Some (line.One (event.Deliver k))) line_deliver (between_word 10 1 (2 ^ 63 - 1)))
    (keyword (codes "settle") 32 (variant (λ n. Some (line.Settle n)) line_settle (between_word 10 1 100000))
    (keyword (codes "crash") 32 (variant (λ p. Some (line.One (crash_of p.0 p.1))) line_crash crash_words)
    (keyword (codes "start") 32 (variant (λ m. Some (line.One (event.Start m))) line_start (member_word 10))
    (keyword (codes "end") 10 (always None)
    no_case))))))))

-- A line is one field: whatever is wrong in it, it fails where it begins.
unfoldable pub event_line : Context → Grammar ℕ (Option Line)
event_line context = one_field (line_words context)

-- whatever stands before it
abbrev pub any_line : Context → List Line → Grammar ℕ (Option Line)
any_line context before = event_line context

-- The lines behind the header, up to `end`.
unfoldable pub event_lines : Context → Grammar ℕ (List Line)
event_lines context = until (any_line context)
