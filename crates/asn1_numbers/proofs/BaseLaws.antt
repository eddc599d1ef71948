-- BaseLaws: what is told of the base of a type.
use Rattle.std.specs.Prelude.{◌≡◌, ℕ, List, Option}
use Rattle.token_grammar.specs.declared.token.Token.{Token}
use Rattle.asn1_names.specs.declared.numbers.Base.{Base as CodeBase}
use Rattle.asn1_names.specs.declared.numbers.Base.TheVariants as code
use Rattle.asn1_names.specs.CodeMeanings.{IsTypeNumber, IsTypeOf}
use Rattle.asn1_names.specs.ModuleTerms.{LimitTerm, ModuleTerm, TypeTerm}
use Rattle.asn1_names.specs.ModuleTerms.TypeTerm.{Reference}
use Rattle.asn1_names.specs.NameMeaning.{reference_meaning}
use Rattle.asn1_names.specs.NameMeaning.Meaning.{TypeAt}
use Rattle.asn1_names.specs.NumbersFound.{FindsBase, beneath_tags}
use Rattle.asn1_names.specs.TermViews.{type_term}
use Rattle.asn1_names.specs.TypeBase.{Base, HasBase}
use Rattle.asn1_names.specs.TypeBase.Base.{Written, Standing}
use Rattle.asn1_names.specs.TypeBase.HasBase.{itself, named, standard}
use Rattle.asn1_names.specs.WordViews.{standard_syntax_of}
use Rattle.asn1_names.proofs.OneNumber.{at_type, not_both, same_types}
use Rattle.asn1_numbers.proofs.BaseLinkLaws.{above_tags, below_tags, number_type}

-- ---- from what stands beneath tags to a type

pub found_above : (ms : List ModuleTerm) (m : ℕ) (of : TypeTerm) (told : CodeBase) →
    FindsBase ms m (beneath_tags of) told → FindsBase ms m of told
found_above ms m of (code.Written home top holder) h =
    (above_tags ms m of (Written home (type_term top.now)) h.0, h.1)
found_above ms m of (code.Standing own) h = above_tags ms m of (Standing (standard_syntax_of own)) h
found_above ms m of code.Nothing h = λ base has. h base (below_tags ms m of base has)

-- ---- from the type that a name means to the name

has_meant : {ms : List ModuleTerm} {m v i : ℕ} {module_name : Option Token} {name : Token} {limits : List LimitTerm}
    {of : TypeTerm} {base : Base} → reference_meaning ms m module_name name ≡ TypeAt v i of →
    HasBase ms m (Reference module_name name limits) base → HasBase ms v of base
has_meant means (itself is) = absurd (cc)
has_meant {ms = ms} {v = v} {i = i} {of = of} {base = base} means (named {v = w} {i = j} {of = its} other h) =
    at_type (λ n x. HasBase ms n x base) v w of its (same_types _ v i w j of its means other) h
has_meant {v = v} {i = i} {of = of} means (standard {syntax = syntax} other) =
    absurd (not_both _ v i of syntax means other)

pub found_named : (ms : List ModuleTerm) (m number : ℕ) (module_name : Option Token) (name : Token)
    (limits : List LimitTerm) (told : CodeBase) → IsTypeNumber ms number (reference_meaning ms m module_name name) →
    ((v : ℕ) (of : TypeTerm) → IsTypeOf ms number v of → FindsBase ms v of told) →
    FindsBase ms m (Reference module_name name limits) told
found_named ms m number module_name name limits told is finds = by told (finds is.numbered.in_module is.of
    (number_type ms number (reference_meaning ms m module_name name) is))
  where
    by : (base : CodeBase) → FindsBase ms is.numbered.in_module is.of base →
        FindsBase ms m (Reference module_name name limits) base
    by (code.Written home top holder) h = (named is.is h.0, h.1)
    by (code.Standing own) h = named is.is h
    by code.Nothing h = λ base has. h base (has_meant is.is has)
