-- The class, the name, the values and the packages.
use Rattle.std.proofs.Common.{refl, map}
use Rattle.gdmo_names.specs.FaultSets.{AnyOf, Either, FaultSet}
use Rattle.gdmo_names.specs.MemberViews.{clause_tokens}
use Rattle.gdmo_names.specs.Mentions.Role.{ChosenPackage, GivenAttribute, InstanceClass, NameAttribute}
use Rattle.gdmo_names.specs.PartViews.{pair_term, pair_terms}
use Rattle.gdmo_names.specs.SectionFaults.{FaultsOfPair, LabelFaults}
use Rattle.gdmo_targets.specs.SectionTables.{TellsPair}
use Rattle.gdmo_names.proofs.InStepLaws.{at_slice}
use Rattle.gdmo_names.proofs.NotingLaws.{both_noted}
use Rattle.gdmo_targets.proofs.section_references.Labelled.instance_targets.Goals as goal

pub returns : goal.returns
returns c = λ parts is.
    let names = at_slice (TellsPair parts c.args.self.now.templates.now c.args.document NameAttribute)
    (FaultsOfPair parts c.args.document NameAttribute) pair_term c.in_ok-name.name.items c.as_slice-pairs.ensures.value
    (c.in_ok-name.ensures parts is) in
    let class : FaultSet = LabelFaults parts c.args.document InstanceClass c.args.instance.now.class in
    let name : FaultSet = AnyOf (FaultsOfPair parts c.args.document NameAttribute)
    (map pair_term c.args.instance.now.name.items) in
    let given : FaultSet = AnyOf (FaultsOfPair parts c.args.document GivenAttribute)
    (pair_terms c.args.instance.now.values) in
    let packages : FaultSet = AnyOf (LabelFaults parts c.args.document ChosenPackage)
    (clause_tokens c.args.instance.now.packages) in (
      record {
        is_in = refl;
        is_class = (c.named-class.ensures parts is).0;
        are_name = names.0;
        are_given = (c.in_ok-given.ensures parts is).0;
        are_packages = (c.in_ok-packages.ensures parts is).0;
      },
      both_noted class (Either name (Either given packages)) (c.named-class.ensures parts is).1
          (both_noted name (Either given packages) names.1
          (both_noted given packages (c.in_ok-given.ensures parts is).1 (c.in_ok-packages.ensures parts is).1)),
    )
