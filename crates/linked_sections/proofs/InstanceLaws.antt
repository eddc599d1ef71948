-- InstanceLaws: the packages of instances with the numbers of their templates (docs/PROFILE.md, section 9).
use Rattle.std.specs.Prelude.{ℕ, List, [], ◌∷◌, Option, map}
use Rattle.token_grammar.specs.declared.token.Token.{Token}
use Rattle.gdmo_linking.specs.Linkers.{IsMeant, LinksMention}
use Rattle.gdmo_names.specs.InStep.{AreAll, AreEach}
use Rattle.gdmo_names.specs.Mentions.{Mention, mention}
use Rattle.gdmo_names.specs.Mentions.Role.{ChosenPackage}
use Rattle.gdmo_names.specs.PartTerms.{PartTerms}
use Rattle.gdmo_names.specs.TargetTables.{TellsMention}
use Rattle.gdmo_names.specs.TemplateTerms.ReferenceTerm.{ByLabel}
use Rattle.gdmo_names.specs.declared.found.Found.{Found}
use Rattle.gdmo_targets.specs.SectionTables.{TellsLabel}
use Rattle.linked_sections.specs.KnownSections.{IsMeantLabel}
use Rattle.linked_sections.specs.LinkedSections.{IsChosen}

abbrev pub chosen : Token → Mention
chosen label = mention ChosenPackage (ByLabel label)

pub chosen_meant : (parts : PartTerms) (document : ℕ) (labels : List Token) →
    AreAll (IsMeantLabel parts document ChosenPackage) labels → AreAll (IsMeant parts document) (map chosen labels)
chosen_meant parts document [] all = tt
chosen_meant parts document (x ∷ xs) all = (all.0, chosen_meant parts document xs all.1)

pub chosen_told : (parts : PartTerms) (found : List Found) (document : ℕ) (labels : List Token)
    (numbers : List (Option ℕ)) → AreEach (TellsLabel parts found document ChosenPackage) labels numbers →
    AreEach (TellsMention parts found document) (map chosen labels) numbers
chosen_told parts found document [] [] each = tt
chosen_told parts found document [] (n ∷ ns) each = absurd each
chosen_told parts found document (x ∷ xs) [] each = absurd each
chosen_told parts found document (x ∷ xs) (n ∷ ns) each = (each.0, chosen_told parts found document xs ns each.1)

pub chosen_linked : (parts : PartTerms) (document : ℕ) (labels : List Token) (ks : List ℕ) →
    AreEach (LinksMention parts document) (map chosen labels) ks → AreEach (IsChosen parts document) labels ks
chosen_linked parts document [] [] each = tt
chosen_linked parts document [] (k ∷ ks) each = absurd each
chosen_linked parts document (x ∷ xs) [] each = absurd each
chosen_linked parts document (x ∷ xs) (k ∷ ks) each = (each.0, chosen_linked parts document xs ks each.1)
