-- A call ends its line, and has no other line feed.
use Rattle.std.proofs.Common.{◌≡◌, ℕ, ◌+◌, Bool}
use Rattle.std.specs.Prelude.{Option, Some, None, codes}
use Rattle.cp_grammar.specs.Grammar.{Grammar, FitsOf, spelled_of, variant}
use Rattle.cp_grammar.specs.Words.{Token}
use Rattle.cp_call_words.specs.Values.{signed_word, hex_word, reference_word, name_word, group_word, member_word}
use Rattle.cp_call_words.specs.declared.context.Context.{Context}
use Rattle.cp_call_words.specs.Objects.{object_word}
use Rattle.cp_call_words.specs.ObjectCalls.{long_calls, ref_calls, lock_calls, sem_calls, latch_calls, map_calls, asked_word, asked, on_object}
use Rattle.cp_call_words.specs.Calls.{only_if, closing, on_group, on_member, on_change, other_calls, user_calls, user_op}
use Rattle.cp_schedule.proofs.Feeds.{feeds, feed, Counts, CountsCases, counted, counts_enum, counts_alone, counts_then}

only_if_feeds : {A : Type 0} (holds : Bool) (g : Grammar ℕ A) (n : ℕ) → Counts g n → Counts (only_if holds g) n
only_if_feeds holds g n law = record { counts = λ x fits. law.counts x fits.1 }

signed_space : Counts (signed_word 32) 0
unfolding signed_word
signed_space = search counted

signed_line : Counts (signed_word 10) 1
unfolding signed_word
signed_line = search counted

hex_space : (least most : ℕ) → Counts (hex_word 32 least most) 0
unfolding hex_word
hex_space least most = search counted

hex_line : (least most : ℕ) → Counts (hex_word 10 least most) 1
unfolding hex_word
hex_line least most = search counted

reference_space : Counts (reference_word 32) 0
unfolding reference_word
reference_space = search counted

reference_line : Counts (reference_word 10) 1
unfolding reference_word
reference_line = search counted

name_line : Counts (name_word 10) 1
unfolding name_word
name_line = search counted

group_line : (managed : Bool) → Counts (group_word managed 10) 1
unfolding group_word
group_line managed = search counted

pub member_space : Counts (member_word 32) 0
unfolding member_word
member_space = search counted

pub member_line : Counts (member_word 10) 1
unfolding member_word
member_line = search counted

object_space : (managed : Bool) → Counts (object_word managed) 0
unfolding object_word
object_space managed = search counted

-- ---- what is asked of objects

long_feeds : CountsCases long_calls
unfolding long_calls
long_feeds = search (counted, signed_space, signed_line) depth 20 fits 20000

ref_feeds : CountsCases ref_calls
unfolding ref_calls
ref_feeds = search (counted, reference_space, reference_line) depth 20 fits 20000

lock_feeds : CountsCases lock_calls
unfolding lock_calls
lock_feeds = search counted depth 20 fits 20000

sem_feeds : CountsCases sem_calls
unfolding sem_calls
sem_feeds = search counted depth 20 fits 20000

latch_feeds : CountsCases latch_calls
unfolding latch_calls
latch_feeds = search counted depth 20 fits 20000

map_feeds : CountsCases map_calls
unfolding map_calls
map_feeds = search (counted, hex_space, hex_line) depth 20 fits 20000

module _ {A : Type 0} (calls : Token → Grammar ℕ A) (all : CountsCases calls) where
  asked_step : (t : Token) (o : Option A) → FitsOf (calls t) Some o o → feeds (spelled_of (calls t) o) + feed t.1 ≡ 1
  asked_step t None fits = absurd fits
  asked_step t (Some call) fits = all.counts t call fits.0

  asked_cases : CountsCases (λ t. variant Some (λ o. o) (calls t))
  asked_cases = record { counts = asked_step }

  asked_feeds : (word : A → Token) → Counts (asked word calls) 1
  asked_feeds word = counts_enum (asked_word word) _ (counts_alone (codes "destroy") None _ asked_cases)

  pub on_object_feeds : (managed : Bool) (word : A → Token) → Counts (on_object managed word calls) 1
  unfolding on_object
  on_object_feeds managed word = counts_then (object_word managed) (asked word calls) 1 (object_space managed) (asked_feeds word)

-- ---- every call

closing_feeds : (managed : Bool) → Counts (closing managed) 1
unfolding closing
closing_feeds managed = search (counted, group_line) depth 12

group_feeds : Counts on_group 1
unfolding on_group
group_feeds = search (counted, name_line) depth 12

member_feeds : Counts on_member 1
unfolding on_member
member_feeds = search (counted, member_line) depth 12

change_feeds : Counts on_change 1
unfolding on_change
change_feeds = search (counted, member_space) depth 12

other_feeds : (context : Context) → CountsCases (other_calls context)
unfolding other_calls
other_feeds context = search (counted, only_if_feeds, closing_feeds, group_feeds, member_feeds, change_feeds) depth 14 fits 20000

call_feeds : (context : Context) → CountsCases (user_calls context)
unfolding user_calls
call_feeds context = search (counted, on_object_feeds, long_feeds, ref_feeds, lock_feeds, sem_feeds, latch_feeds, map_feeds, other_feeds) depth 20 fits 20000

pub user_op_feeds : (context : Context) → Counts (user_op context) 1
unfolding user_op
user_op_feeds context = search (counted, call_feeds)
