-- The module that is got.
use Rattle.std.proofs.Common.{◌∙◌, ap, slice_get}
use Rattle.asn1_names.proofs.TableAnswers.{item_is}
use Rattle.asn1_resolve.proofs.AssignmentLaws.{module_got}
use Rattle.asn1_resolve.proofs.judging.module_at.Goals as goal

pub returns : goal.returns
returns c = module_got c.args.tables.now c.args.place c.get.result
    (item_is c.modules.result.now c.args.place c.get.result c.get.ensures.lookup.0 c.get.ensures.lookup.1 ∙
    ap (λ xs. slice_get xs c.args.place) c.modules.ensures)
