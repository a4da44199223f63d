-- A run that is worked out by hand: an attempt that comes twice, and again after a start.
use Rattle.std.specs.Prelude.{ℕ, List, [], ◌∷◌, ◌++◌}
use Rattle.cp_member_rules.specs.Members.{MemberState}
use Rattle.cp_member_rules.specs.Worked.{machines, setup, leads_both, asks}
use Rattle.cp_member_laws.specs.Runs.{Happening, Comes, Starts, AttemptKey, after_all, times, takes, makes}

-- attempt 7 of the client's first thread, to this start of the member
abbrev pub seventh : ℕ → AttemptKey
seventh restart = record { from = 17; thread = 1; attempt = 7; restart = restart }

abbrev pub before : List Happening
before = Comes (asks 7 1 1) ∷ Comes (asks 7 1 1) ∷ Starts ∷ Comes (asks 7 1 1) ∷ []

abbrev pub run : List Happening
run = before ++ Comes (asks 7 2 1) ∷ []

-- how often it is taken, and makes an entry
abbrev pub taken : ℕ → ℕ
taken restart = times machines setup 1 (takes machines setup 1 (seventh restart)) leads_both run

abbrev pub made : ℕ → ℕ
made restart = times machines setup 1 (makes machines setup 1 (seventh restart)) leads_both run

-- The last of them finds a member that doesn't lead yet.
abbrev pub restarted : MemberState
restarted = after_all machines setup 1 leads_both before
