use Rattle.std.proofs.Common.{rules, ◌≡◌, length, drop}
use Rattle.std.proofs.lemmas.Slice.Eq.{starts_is}
use Rattle.term_model.proofs.MapLaws.{rdn_Decides}
use Rattle.term_model.proofs.name.Name.starts_with.Goals as goal

pub returns : goal.returns
returns c =
    let name = c.args.self.now in
    let front = c.args.front.now in
    let name_is : c.as_slice.result.now ≡ c.args.self.now = search rules in
    let front_is : c.as_slice-2.result.now ≡ c.args.front.now = search rules in
    let tested = rw (name_is, front_is) at c.starts_with.ensures.value in
    let both = starts_is rdn_Decides name front c.starts_with.result tested in
    (λ begins. (drop (length front) name, both.0 begins), λ begun. both.1 begun.0 begun.1)
