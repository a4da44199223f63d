-- Lists, and what they contain.
pub use Rattle.cp_group_state.proofs.Lists.{no-element, one-is, one-only, at-head, at-tail, mapped, map-in, get-left, get-last, get-in, get-contains}
