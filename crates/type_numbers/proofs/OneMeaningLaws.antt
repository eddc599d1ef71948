-- OneMeaningLaws: two types that are meant have one key exactly where they are one.
use Rattle.std.proofs.Common.{◌≡◌, ◌∙◌, List, ap, sym, true}
use Rattle.std.proofs.Math.Path.{subst}
use Rattle.asn1_names.specs.ModuleTerms.{ModuleTerm}
use Rattle.asn1_names.specs.NameMeaning.{Meaning}
use Rattle.asn1_names.specs.ResolvedTypes.{HasSyntax}
use Rattle.key_numbers.specs.TypeKeys.{TypeKey, has_mark, key_syntax}
use Rattle.key_numbers.proofs.KeyLaws.{key_law}
use Rattle.type_numbers.specs.MeaningKeys.{IsKeyOf}
use Rattle.type_numbers.specs.OneMeaning.{AreOneMeant, NumbersTellTypes}
use Rattle.type_numbers.proofs.MeaningLaws.{one_key, one_meant_syntax}

one_meant : (ms : List ModuleTerm) (one other : Meaning) (a b : TypeKey) → IsKeyOf ms one a → IsKeyOf ms other b →
    a ≡ b → AreOneMeant ms one other
one_meant ms one other a b h g e = record {
  syntax = key_syntax a;
  has = h.syntax;
  has_too = subst (HasSyntax ms other) (sym (ap key_syntax e)) g.syntax;
  defaults = λ path. (
    λ d. (g.marks path).1 (subst (λ k. has_mark k path ≡ true) e ((h.marks path).0 d)),
    λ d. (h.marks path).1 (subst (λ k. has_mark k path ≡ true) (sym e) ((g.marks path).0 d)),
  );
}

same_key : (ms : List ModuleTerm) (one other : Meaning) (a b : TypeKey) → IsKeyOf ms one a → IsKeyOf ms other b →
    AreOneMeant ms one other → a ≡ b
same_key ms one other a b h g are = one_key ms one other a b h g
    (one_meant_syntax h.syntax are.has ∙ sym (one_meant_syntax g.syntax are.has_too))
    (λ path d. (are.defaults path).0 d) (λ path d. (are.defaults path).1 d)

pub told_types : NumbersTellTypes
told_types ms row one other n k once h g =
    let law = key_law h.key g.key once h.numbered g.numbered in (
      λ e. one_meant ms one other h.key g.key h.is_key g.is_key (law.0 e),
      λ are. law.1 (same_key ms one other h.key g.key h.is_key g.is_key are),
    )
