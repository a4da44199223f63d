-- The shared formats are lawful.
use Rattle.std.specs.Prelude.{ℕ, List}
use Rattle.cp_codec.specs.Exact.{IsByte}
use Rattle.cp_grammar.specs.Lawful.{IsLawful}
use Rattle.cp_grammar.specs.Common.{index, index_pair, name, group_id, thread_no, member_no, client_id, invocation, member_after, members}
use Rattle.cp_grammar.specs.FieldLaws.{lawful}

pub index_lawful : IsLawful IsByte index
unfolding index
index_lawful = search lawful

pub index_pair_lawful : IsLawful IsByte index_pair
unfolding index_pair
index_pair_lawful = search (lawful, index_lawful)

pub name_lawful : IsLawful IsByte name
unfolding name
name_lawful = search lawful

pub group_lawful : IsLawful IsByte group_id
unfolding group_id
group_lawful = search (lawful, index_lawful)

pub thread_lawful : IsLawful IsByte thread_no
unfolding thread_no
thread_lawful = search lawful

pub member_lawful : IsLawful IsByte member_no
unfolding member_no
member_lawful = search lawful

pub client_lawful : IsLawful IsByte client_id
unfolding client_id
client_lawful = search lawful

pub invocation_lawful : IsLawful IsByte invocation
unfolding invocation
invocation_lawful = search (lawful, client_lawful, thread_lawful, index_lawful) depth 12

pub member_after_lawful : (before : List ℕ) → IsLawful IsByte (member_after before)
unfolding member_after
member_after_lawful before = search lawful

pub members_lawful : IsLawful IsByte members
unfolding members
members_lawful = search (lawful, member_after_lawful) depth 12
