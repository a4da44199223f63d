-- Which calls of a disk in memory fail, and what is counted of them.
use Rattle.std.specs.Prelude.{Bool, false, ◌==◌, ◌||◌, ◌+◌, ◌-◌, ◌^◌, ℕ, Option, None, Some, min, if◌then◌else◌}
use Rattle.std.specs.List.{list_any}
use Rattle.cp_disk.specs.declared.faults.Faults.{Faults}

-- one more, up to the type's end
abbrev pub one_more : ℕ → ℕ
one_more count = min (count + 1) (2 ^ 64 - 1)

-- a stop is armed that lets no change pass any more
abbrev pub is_used_up : Option ℕ → Bool
is_used_up None = false
is_used_up (Some left) = left == 0

-- a stop, after a change that it let pass
abbrev pub one_fewer : Option ℕ → Option ℕ
one_fewer None = None
one_fewer (Some left) = Some (left - 1)

-- whether the next call is one of those that fail by their number
abbrev pub names_next : Faults → Bool
names_next faults = list_any (λ number. number == one_more faults.calls) faults.fails.items

-- whether the next call fails
abbrev pub fails_next : Faults → Bool
fails_next faults = is_used_up faults.stop || names_next faults

-- after the next call, which is counted, and its failure too
abbrev pub after_call : Faults → Faults
after_call faults = record faults {
  calls = one_more faults.calls;
  faults = if fails_next faults then one_more faults.faults else faults.faults;
  is_struck = is_used_up faults.stop || faults.is_struck;
}

-- after the next call, which is a change
abbrev pub after_change : Faults → Faults
after_change faults = record (after_call faults) { stop = if fails_next faults then faults.stop else one_fewer faults.stop }
