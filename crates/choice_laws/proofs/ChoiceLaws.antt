-- ChoiceLaws: each CHOICE in modules of documents that were read has an alternative (X.680, section 29.1;
-- docs/PROFILE.md, section 8).
use Rattle.std.proofs.Common.{List, sym, subst, map}
use Rattle.std.specs.Prelude.{All}
use Rattle.std.specs.Global.{Vec}
use Rattle.std.proofs.lemmas.List.Elements.{All-contains}
use Rattle.token_grammar.specs.declared.token.Token.{Token}
use Rattle.asn1_names.specs.TermViews.{module_term, module_terms}
use Rattle.document_units.specs.declared.unit.DocumentUnit.{DocumentUnit}
use Rattle.document_parts.specs.DocumentParts.{AreParts}
use Rattle.document_parts.specs.ReadDocuments.{AreRead}
use Rattle.gdmo_names.specs.declared.parsed.Parsed.{Parsed}
use Rattle.placing_laws.proofs.ModuleTypes.{at_place}
use Rattle.sound_laws.specs.GivenMeanings.{HaveAlternatives}
use Rattle.choice_laws.proofs.ModuleChoices.{IsFilledIn, IsFilledModule, all_filled}
use Rattle.choice_laws.proofs.TermChoices.{IsFilled}

pub have_alternatives : (lists : List (Vec Token)) (units : List (List DocumentUnit)) (parts : Parsed) →
    AreRead lists units → AreParts units parts → HaveAlternatives (module_terms parts.modules.items)
have_alternatives lists units parts read gathered document m word limits stands =
    let all = subst (λ xs. All IsFilledModule (map module_term xs)) (sym gathered.modules) (all_filled 1 read) in
    let assigns = stands.assigned in
    let home = at_place IsFilledModule (module_terms parts.modules.items) m assigns.in_module all
    assigns.is_in.module_at in
    let filled = All-contains IsFilledIn assigns.in_module.assignments assigns.assignment home.each assigns.stands in
    (subst IsFilled assigns.is_of filled.filled).none_empty word limits stands.within
