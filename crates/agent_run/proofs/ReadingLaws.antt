-- ReadingLaws: documents that are read one after the other.
use Rattle.std.proofs.Common.{◌≡◌, ◌<◌, ◌≤◌, ◌+◌, ◌++◌, ℕ, List, [], ◌∷◌, map, take, drop, length, get_or}
use Rattle.std.proofs.Common.{ap, sym, ◌∙◌, refl, suc, arith}
use Rattle.std.proofs.Math.Path.{subst}
use Rattle.std.proofs.lemmas.List.{drop_more, take_more, map-append, take-append-drop, length-map}
use Rattle.agent_bytes.specs.Told.{IsFile}
use Rattle.document_parts.specs.declared.documents.Doc.{Doc}
use Rattle.agent_run.specs.declared.refusal.Refusal.{Refusal}
use Rattle.agent_run.specs.Files.{AreDocuments, IsDocumentIn, Told, document_files, most_script}
use Rattle.agent_run.specs.Files.AreDocuments.{no_document, document}
use Rattle.agent_run.specs.Refusing.{AreRunFiles, HasFileCause}
use Rattle.agent_run.proofs.Causes.{at_document, one_more}

whole : {A : Type 0} (names : List A) (i : ℕ) (name : A) → i < length names → name ≡ get_or names i name →
    take i names ++ name ∷ drop (i + 1) names ≡ names
whole names i name within is =
    ap (λ xs. take i names ++ xs)
    (ap (λ x. x ∷ drop (i + 1) names) is ∙ sym (drop_more names i name within))
    ∙ take-append-drop i names

-- the file of one of the names has a cause, and those before it were read
pub stopped_at : {A : Type 0} (f : A → List ℕ) (names : List A) (i : ℕ) (name : A) (word : List ℕ) (files now : Told)
    (docs : List Doc) (before between after : ℕ) (r : Refusal) → i < length names → name ≡ get_or names i name →
    word ≡ f name → now ≡ files → between ≡ before → AreDocuments files (map f (take i names)) docs →
    HasFileCause now (document_files (word ∷ [])) between after r →
    HasFileCause files (document_files (map f names)) before after r
stopped_at f names i name word files now docs before between after r within is called same quiet are cause =
    subst (λ xs. HasFileCause files (document_files xs) before after r)
    (sym (map-append f (take i names) (name ∷ drop (i + 1) names)) ∙ ap (λ xs. map f xs) (whole names i name within is))
    (at_document files (f name) (map f (take i names)) (map f (drop (i + 1) names)) docs before after r are
    (subst (λ w. HasFileCause files (document_files (w ∷ [])) before after r) called
    (subst (λ n. HasFileCause files (document_files (word ∷ [])) n after r) quiet
    (subst (λ t. HasFileCause t (document_files (word ∷ [])) between after r) same cause))))

-- one document more was read
pub read_more : {A : Type 0} (f : A → List ℕ) (names : List A) (i : ℕ) (name : A) (word : List ℕ) (files now : Told)
    (docs : List Doc) (doc : Doc) → i < length names → name ≡ get_or names i name → word ≡ f name → now ≡ files →
    AreDocuments files (map f (take i names)) docs → IsDocumentIn now word doc →
    AreDocuments files (map f (take (i + 1) names)) (docs ++ doc ∷ [])
read_more f names i name word files now docs doc within is called same are one =
    subst (λ xs. AreDocuments files xs (docs ++ doc ∷ []))
    (sym (ap (λ xs. map f xs) (take_more names i name within ∙ ap (λ x. take i names ++ x ∷ []) (sym is))
    ∙ map-append f (take i names) (name ∷ [])))
    (one_more (f name) doc are
    (subst (λ w. IsDocumentIn files w doc) called (subst (λ t. IsDocumentIn t word doc) same one)))

as_many : {files : Told} {names : List (List ℕ)} {docs : List Doc} → AreDocuments files names docs →
    length docs ≡ length names
as_many no_document = refl
as_many (document one others) = ap (λ n. suc n) (as_many others)

-- there are as many documents as names
pub few_documents : {A : Type 0} (f : A → List ℕ) (names : List A) (files : Told) (docs : List Doc) →
    AreDocuments files (map f names) docs → length names ≤ 64 → length docs ≤ 64
few_documents f names files docs are few =
    let many = as_many are in let same = length-map names f in omega (arith, many, same, few)

-- the script and the documents of a run
pub run_files_of : (files now : Told) (script_name : List ℕ) (names : List (List ℕ)) (bytes script : List ℕ)
    (read docs : List Doc) → IsFile files script_name bytes → length bytes ≤ most_script → script ≡ bytes → now ≡ files →
    docs ≡ read → AreDocuments now names read → AreRunFiles files script_name names script docs
run_files_of files now script_name names bytes script read docs told small same files_same docs_same are = record {
  within = record { bytes = bytes; told = told; small = small };
  script_is = sym same;
  documents = subst (λ ds. AreDocuments files names ds) (sym docs_same)
      (subst (λ t. AreDocuments t names read) files_same are);
}
