-- A tag.
use Rattle.std.proofs.Common.{sym}
use Rattle.std.proofs.Math.Path.{subst}
use Rattle.asn1_values_syntax.specs.declared.tag.Tag.{Tag as TagText}
use Rattle.asn1_syntax.specs.declared.type_text.TypeText.{TypeText}
use Rattle.asn1_names.specs.TermViews.{module_terms, tag_term, type_term}
use Rattle.asn1_resolve.specs.FaultSets.{In, IsFirstOf}
use Rattle.asn1_resolve.specs.TypeFaults.{HeadFaults, TagFaults}
use Rattle.asn1_resolve.proofs.type_faults.judge_head.Goals as goal

pub returns-in-Tagged : goal.returns-in-Tagged
returns-in-Tagged c =
    let ms = module_terms c.args.numbers.now in
    subst (λ (t : TypeText). IsFirstOf (In c.args.home.document (HeadFaults ms c.args.home.module (type_term t)))
    c.judge_tag.result) (sym c.in-Tagged.is)
    (subst (λ (tag : TagText). IsFirstOf (In c.args.home.document (TagFaults ms c.args.home.module (tag_term tag)))
    c.judge_tag.result) c.deref.ensures c.judge_tag.ensures)
