-- The tag of a word.
use Rattle.std.proofs.Common.{ap, ◌∙◌}
use Rattle.std.specs.Prelude.{OnOk}
use Rattle.term_values.specs.Tag.{is_same_tag}
use Rattle.asn1_names.specs.TypeWords.{one_word_type}
use Rattle.asn1_names.specs.WordViews.{word_syntax}
use Rattle.asn1_tags.specs.GatheredTags.{GainsTags, word_begins}
use Rattle.asn1_tags.proofs.TagLaws.{same_test, word_test}
use Rattle.asn1_tags.proofs.tag_sets.push_word.Goals as goal

pub returns-in-Some : goal.returns-in-Some
returns-in-Some c = same_test (λ test. OnOk c.push_tag.result (GainsTags c.args.into.now c.push_tag.new.into test))
    (is_same_tag c.word_tag.result) (word_begins (one_word_type c.args.word.now.text))
    (λ tag. word_test (one_word_type c.args.word.now.text) (word_syntax c.in-Some.found) c.word_tag.result tag
    c.word_tag.ensures (c.in-Some.ensures ∙ ap one_word_type c.as_slice.ensures)) c.push_tag.ensures
