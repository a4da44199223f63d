-- The words of values are lawful.
use Rattle.std.specs.Prelude.{ℕ, Bool}
use Rattle.std.specs.Fmt.{signed_decimal}
use Rattle.std.specs.Str.Parse.{signed_digits_value}
use Rattle.cp_codec.specs.Exact.{IsByte}
use Rattle.cp_grammar.specs.Lawful.{IsLawful}
use Rattle.cp_grammar.specs.WordLaws.{lawful_text, texted_lawful}
use Rattle.cp_op_values.specs.Values.{hex_text, reference_text}
use Rattle.cp_call_words.specs.Values.{is_long, signed_word, member_word, hex_bytes, has_length, hex_word, reference_of, is_reference, reference_word, name_word, group_word}

pub signed_word_lawful : (end : ℕ) → IsLawful IsByte (signed_word end)
unfolding signed_word
signed_word_lawful end = texted_lawful end signed_decimal (signed_digits_value 10) is_long

pub hex_word_lawful : (end least most : ℕ) → IsLawful IsByte (hex_word end least most)
unfolding hex_word
hex_word_lawful end least most = texted_lawful end hex_text hex_bytes (has_length least most)

pub reference_word_lawful : (end : ℕ) → IsLawful IsByte (reference_word end)
unfolding reference_word
reference_word_lawful end = texted_lawful end reference_text reference_of is_reference

pub name_word_lawful : (end : ℕ) → IsLawful IsByte (name_word end)
unfolding name_word
name_word_lawful end = search lawful_text

pub group_word_lawful : (managed : Bool) (end : ℕ) → IsLawful IsByte (group_word managed end)
unfolding group_word
group_word_lawful managed end = search lawful_text

pub member_line_lawful : IsLawful IsByte (member_word 10)
unfolding member_word
member_line_lawful = search lawful_text

pub member_space_lawful : IsLawful IsByte (member_word 32)
unfolding member_word
member_space_lawful = search lawful_text
