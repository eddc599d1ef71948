-- The template that has the number is told what it names.
use Rattle.std.proofs.Common.{◌≡◌, ◌∙◌, ap, get_or, refl, rules, set}
use Rattle.gdmo_names.specs.FindingSteps.{told}
use Rattle.gdmo_names.proofs.FindingLaws.{told_at}
use Rattle.gdmo_names.proofs.found.Finding.end.Goals as goal

pub returns-then-number-len : goal.returns-then-number-len
returns-then-number-len c =
    let own : c.index_mut.result.now
    ≡ get_or c.args.self.now.templates.items c.args.number c.index_mut.result.now = search rules in
    record {
      document = refl;
      is = λ first last x is number_is.
          ap (λ y. set c.args.self.now.templates.items c.args.number (told y c.args.mentions)) own
          ∙ told_at c.args.self.now.templates.items first last x c.index_mut.result.now c.args.number c.args.mentions is
          number_is;
    }
