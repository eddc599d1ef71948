-- What the tables tell of the name.
use Rattle.asn1_names.specs.TermViews.{module_terms}
use Rattle.gdmo_names.specs.PartTerms.{module_terms_of}
use Rattle.gdmo_names.specs.TypeMeaning.{qualified_meaning}
use Rattle.gdmo_linking.proofs.NameLaws.{name_told}
use Rattle.gdmo_linking.proofs.linking.Linker.name.Goals as goal

pub returns : goal.returns
returns c = λ parts is known. record {
  named = c.in_ok-token.ensures;
  meant = c.in_ok-meaning.ensures parts (qualified_meaning (module_terms_of parts) c.args.name.now) is known
      (name_told parts c.args.self.now (module_terms c.args.self.now.linkage.types.now) c.args.name.now c.meaning-meaning.result
      c.as_slice-module.result.now c.as_slice.result.now c.as_slice-module.ensures c.as_slice.ensures is.linkage.are_modules c.meaning-meaning.ensures);
}
