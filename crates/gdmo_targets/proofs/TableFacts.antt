-- TableFacts: examples, computed: lists that go in step, what is found of a template, what its reference tells, that two
-- templates have labels at two places, and what a step of a rule tells.
use Rattle.std.specs.Prelude.{◌≡◌, ◌<◌, [], ◌∷◌, None, codes, refl}
use Rattle.std.proofs.Common.{arith}
use Rattle.gdmo_names.specs.declared.found.Mention.{Mention as FoundMention}
use Rattle.gdmo_names.specs.declared.found.Target.TheVariants.{Label}
use Rattle.gdmo_names.specs.declared.roles.Role.TheVariants as roles
use Rattle.gdmo_names.specs.DocumentTemplates.{templates}
use Rattle.gdmo_names.specs.InStep.{AreEach}
use Rattle.gdmo_names.specs.LabelMeaning.{first_called, label_meaning, target}
use Rattle.gdmo_names.specs.Mentions.{mention}
use Rattle.gdmo_names.specs.Mentions.Role.{Superclass, StepAttribute}
use Rattle.gdmo_names.specs.PartTerms.StepTerm.{ReplyWith, SetTo}
use Rattle.gdmo_names.specs.PartTerms.TakenTerm.{OneWord}
use Rattle.gdmo_names.specs.PartTerms.{PartTerms}
use Rattle.gdmo_targets.specs.SectionTables.{TellsStep}
use Rattle.gdmo_names.specs.TargetTables.{AreFound, AreTargets, AreTwo, IsMention, TellsMention}
use Rattle.gdmo_names.specs.TemplateTerms.ReferenceTerm.{ByLabel}
use Rattle.gdmo_targets.proofs.MeaningLaws.{means_nothing}
use Rattle.gdmo_names.proofs.StandardFacts.{doubled, first_a, second_a}
use Rattle.gdmo_names.proofs.Texts.{of_templates, placed, word}

in_step : AreEach (λ x y. x < y) (1 ∷ 2 ∷ []) (2 ∷ 3 ∷ [])
in_step = (omega arith, (omega arith, tt))

-- DERIVED FROM b
abbrev named_b : FoundMention
named_b = record { role = roles.Superclass; target = Label (record { ref_ptr = (0, 0); now = word 20 (codes "b") }) }

found_b : IsMention [] 1 named_b (mention Superclass (ByLabel (word 20 (codes "b"))))
found_b = record { in_role = refl; refers = refl; fits = tt }

-- no template has the label b
nothing_b : label_meaning doubled (codes "b") ≡ None
unfolding label_meaning first_called templates
nothing_b = refl

tells_b : TellsMention doubled [] 1 (mention Superclass (ByLabel (word 20 (codes "b")))) None
unfolding target
tells_b = means_nothing doubled 1 Superclass (ByLabel (word 20 (codes "b"))) nothing_b

tells_set : TellsStep doubled [] 1 (SetTo (word 20 (codes "b")) (OneWord (word 30 (codes "c")))) None
unfolding target
tells_set = means_nothing doubled 1 StepAttribute (ByLabel (word 20 (codes "b"))) nothing_b

tells_reply : TellsStep doubled [] 1 (ReplyWith (OneWord (word 30 (codes "c")))) None
tells_reply = refl

two : AreTwo (placed 1 first_a) (placed 1 second_a)
two = λ one same. absurd (omega (arith, same))

-- of documents without templates nothing is found, and nothing tells anything
abbrev nothing : PartTerms
nothing = of_templates []

finds_nothing : AreFound nothing []
unfolding templates
finds_nothing = record { all = refl; mentions = λ k d below. absurd (omega (arith, below)) }

no_targets : AreTargets nothing [] []
no_targets = tt
