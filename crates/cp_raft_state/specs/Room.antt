-- Room for messages.
use Rattle.std.specs.Prelude.{ℕ, ◌-◌, Vec, vec_len, vec_capacity}
use Rattle.std.specs.declared.alloc.Global.{Global}

-- so many more fit without memory
abbrev pub spare : {T : Type 0} → Vec T Global → ℕ
spare items = vec_capacity items - vec_len items
