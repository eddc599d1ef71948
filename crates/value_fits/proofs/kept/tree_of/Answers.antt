use Rattle.std.proofs.Common.{rules, ◌<◌}
use Rattle.std.proofs.lemmas.List.Elements.{All-from_get_or}
use Rattle.term_values.specs.SpellingLaws.{AreOctets}
use Rattle.value_fits.proofs.KeptLaws.{tree_whole, tree_more, read_writable}
use Rattle.value_fits.proofs.kept.tree_of.Goals as goal

pub returns-then-size-octets-clause-read : goal.returns-then-size-octets-clause-read
returns-then-size-octets-clause-read c =
    tree_whole c.args.octets.now c.in-Some.tree c.in-Some.size (search rules) (search rules)

pub returns-then-size-octets-clause-writable : goal.returns-then-size-octets-clause-writable
returns-then-size-octets-clause-writable c =
    let octets = c.args.octets.now in
    let are : AreOctets octets = All-from_get_or (λ octet. octet < 256) octets 0 (λ i l. (c.type_inv.octets i).fits) in
    read_writable octets c.in-Some.tree are
    (tree_whole octets c.in-Some.tree c.in-Some.size (search rules) (search rules))

pub returns-else-size-octets-clause-read : goal.returns-else-size-octets-clause-read
returns-else-size-octets-clause-read c =
    tree_more c.args.octets.now c.in-Some.tree c.in-Some.size (search rules) (search rules) (search rules)
