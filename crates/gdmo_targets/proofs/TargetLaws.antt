-- TargetLaws: what the references of one template tell, and of all.
use Rattle.std.proofs.Common.{◌≡◌, ◌<◌, ◌≤◌, ◌+◌, ℕ, List, [], ◌∷◌, ◌++◌, Option, sym, get_or, length, take, map}
use Rattle.std.specs.Prelude.{All}
use Rattle.std.specs.declared.alloc.Global.{Global}
use Rattle.std.specs.declared.vec.Vec.{Vec}
use Rattle.std.proofs.lemmas.List.{take_all}
use Rattle.std.proofs.Math.Path.{subst}
use Rattle.gdmo_names.specs.declared.first_fault.LabelFault.{LabelFault as NotedFault}
use Rattle.gdmo_names.specs.declared.found.Found.{Found}
use Rattle.gdmo_names.specs.declared.found.Mention.{Mention as FoundMention}
use Rattle.gdmo_names.specs.FaultSets.{AnyOf, FaultsOfTemplates, MentionFaults, Notes, ReferenceFaults}
use Rattle.gdmo_names.specs.FaultSets.{TellsMeant, TemplateFaults}
use Rattle.gdmo_names.specs.FoundViews.{AreTemplates, found_view, found_views, numbered}
use Rattle.gdmo_names.specs.InStep.{AreEach}
use Rattle.gdmo_names.specs.Mentions.{Mention}
use Rattle.gdmo_names.specs.PartTerms.{PartTerms}
use Rattle.gdmo_names.specs.Roles.{role_term}
use Rattle.gdmo_names.specs.TargetTables.{AreTargets, HasMentions, IsMention, TellsMention, TellsTargets}
use Rattle.gdmo_names.proofs.InStepLaws.{each_both}
use Rattle.gdmo_names.proofs.NotingLaws.{any_none, more, noted_end, noted_step}

-- one of them
pub mention_told : (parts : PartTerms) (xs : List Found) (document : ℕ) (found : FoundMention) (y : Mention)
    (n : Option ℕ) {before after : Option NotedFault} → IsMention xs document found y →
    TellsMeant parts document (role_term found.role) y.reference (numbered (found_views xs) n) →
    Notes (ReferenceFaults parts document (role_term found.role) y.reference) before after →
    (TellsMention parts xs document y n) × Notes (MentionFaults parts document y) before after
mention_told parts xs document found y n {before = before} {after = after} is tells noted = (
  subst (λ role. TellsMeant parts document role y.reference (numbered (found_views xs) n)) is.in_role tells,
  subst (λ role. Notes (ReferenceFaults parts document role y.reference) before after) is.in_role noted,
)

-- those of the first templates
abbrev pub TellFirst : PartTerms → List Found → List Found → List (Vec (Option ℕ) Global) → Option NotedFault →
    Option NotedFault → Type 0
TellFirst parts all xs targets before after =
    (AreEach (TellsTargets parts all) xs targets) × Notes (AnyOf (TemplateFaults parts) (map found_view xs)) before after

pub first_none : (parts : PartTerms) (all : List Found) (targets : List (Vec (Option ℕ) Global))
    (before : Option NotedFault) → targets ≡ [] → TellFirst parts all [] targets before before
first_none parts all targets before is =
    (subst (AreEach (TellsTargets parts all) []) (sym is) tt, any_none (TemplateFaults parts) before)

pub first_step : (parts : PartTerms) (all xs : List Found) (i : ℕ) (x : Found)
    (targets after : List (Vec (Option ℕ) Global)) (own : Vec (Option ℕ) Global)
    {before between next : Option NotedFault} → i < length xs → x ≡ get_or xs i x → after ≡ targets ++ own ∷ [] →
    TellFirst parts all (take i xs) targets before between → TellsTargets parts all x own →
    Notes (TemplateFaults parts (found_view x)) between next →
    TellFirst parts all (take (i + 1) xs) after before next
first_step parts all xs i x targets after own within is after_is so_far tells noted = (
  subst (λ zs. AreEach (TellsTargets parts all) (take (i + 1) xs) zs) (sym after_is)
      (subst (λ zs. AreEach (TellsTargets parts all) zs (targets ++ own ∷ [])) (sym (more xs i x within is))
      (each_both (TellsTargets parts all) (take i xs) targets (x ∷ []) (own ∷ []) so_far.0 (tells, tt))),
  noted_step (TemplateFaults parts) found_view xs i x within is so_far.1 noted,
)

-- the mentions of one of all templates
pub mentions_of : (all xs : List Found) (i : ℕ) (x : Found) → i < length xs → x ≡ get_or xs i x →
    All (HasMentions all) xs → HasMentions all x
mentions_of all xs i x within is each = subst (HasMentions all) (sym is) (each i x within)

pub first_end : (parts : PartTerms) (all : List Found) (i : ℕ) (targets : List (Vec (Option ℕ) Global))
    {before after : Option NotedFault} → AreTemplates parts all → length all ≤ i →
    TellFirst parts all (take i all) targets before after →
    (AreTargets parts all targets) × Notes (FaultsOfTemplates parts) before after
first_end parts all i targets {before = before} {after = after} are past h = (
  subst (λ xs. AreEach (TellsTargets parts all) xs targets) (take_all i all past) h.0,
  subst (λ xs. Notes (AnyOf (TemplateFaults parts) xs) before after) are
      (noted_end (TemplateFaults parts) found_view all i past h.1),
)
