-- The part is that of the pair, by the record of its attribute.
use Rattle.std.proofs.Common.{◌∙◌, ap, sym}
use Rattle.std.specs.Option.{option_copied}
use Rattle.std.proofs.lemmas.Option.{same_Some}
use Rattle.term_values.specs.Written.{der}
use Rattle.instance_records.proofs.PairLaws.{is_there, is_told, is_part}
use Rattle.instance_records.proofs.object_names.push_part.Goals as goal

pub returns-in_default-attribute_record : goal.returns-in_default-attribute_record
returns-in_default-attribute_record c = λ ms denoted known registered is valued.
    absurd (is_there ms c.args.parts.now.linked.now c.args.pair.now.attribute (option_copied c.attribute_record.result)
    (c.attribute_record.ensures ms known) (ap option_copied c.in_default-attribute_record.is) registered)

pub returns : goal.returns
returns c = λ ms denoted known registered is valued.
    let linked = c.args.parts.now.linked.now in
    let pair = c.args.pair.now in
    let template = c.in-Some-attribute_record.found.now in
    let told = is_told ms linked pair.attribute (option_copied c.attribute_record.result) template
    (c.attribute_record.ensures ms known) (ap option_copied c.in-Some-attribute_record.is) in
    let same = same_Some c.in-Some.value.now denoted (sym (ap option_copied c.in-Some.is) ∙ is) in record {
      x = c.in_ok-part_of.field-0;
      behind = c.in_ok-push.ensures.items;
      is = is_part ms linked pair template denoted c.in_ok-part_of.field-0 told valued c.in_ok-part_of.ensures.attribute
          (c.in_ok-part_of.ensures.value ∙ ap (der template.syntax) same);
    }
