-- The template stands behind those that were found before.
use Rattle.std.proofs.Common.{refl, rules}
use Rattle.gdmo_names.proofs.found.Finding.begin.Goals as goal

pub returns : goal.returns
returns c = record {
  document = refl;
  is_number = search rules;
  found = record {
    document = c.args.self.now.document;
    label = c.args.label;
    identifier = c.args.identifier;
    body = c.args.body;
    mentions = c.new-mentions.result;
  };
  view = refl;
  empty = c.new-mentions.ensures.items;
  behind = c.in_ok-push.ensures.items;
}
