-- Endings: from why a command is not done to what its status says.
use Rattle.std.proofs.Common.{◌≡◌, ◌≢◌, ℕ, ◌⊎◌, List, Option, sym, ◌∙◌, inl, inr, refl, arith}
use Rattle.std.proofs.Math.Path.{subst}
use Rattle.std.specs.Prelude.{Contains}
use Rattle.agent_run.specs.declared.refusal.Refusal.{Refusal}
use Rattle.agent_run.specs.declared.refusal.Refusal.TheVariants.{Usage, FileFault, FileTooLarge, BadDocument}
use Rattle.agent_run.specs.declared.refusal.Refusal.TheVariants.{BadInstance, BadScript, JournalFull, NotBuilt}
use Rattle.agent_run.specs.declared.refusal.Refusal.TheVariants.{OutOfMemory}
use Rattle.agent_run.specs.Answers.{EndsByBadDocument, EndsByBadScript, EndsByFileFault, EndsByFileTooLarge}
use Rattle.agent_run.specs.Answers.{EndsByJournalFull, EndsByNotBuilt, EndsByUsage, IsPut}
use Rattle.agent_run.specs.Files.{Told}
use Rattle.agent_run.specs.Refusing.{HasCause, status_of, text_of}
use Rattle.agent_run.specs.Statuses.{all_statuses}

-- what the status of a refusal is
abbrev pub Answered : ℕ → Refusal → Type 0
Answered status r = (status ≡ status_of r) ⊎ (status ≡ 8)

status_listed : (r : Refusal) → Contains all_statuses (status_of r)
status_listed Usage = (1, omega arith, refl)
status_listed (FileFault name) = (2, omega arith, refl)
status_listed (FileTooLarge name) = (7, omega arith, refl)
status_listed (BadDocument number line kind) = (3, omega arith, refl)
status_listed (BadInstance index error) = (3, omega arith, refl)
status_listed (BadScript line) = (4, omega arith, refl)
status_listed (NotBuilt what) = (8, omega arith, refl)
status_listed (JournalFull text) = (9, omega arith, refl)
status_listed OutOfMemory = (6, omega arith, refl)

pub written_listed : (status : ℕ) → (status ≡ 0) ⊎ (status ≡ 6) → Contains all_statuses status
written_listed status (inl e) = (0, omega arith, sym e)
written_listed status (inr e) = (5, omega arith, sym e)

pub answered_listed : (status : ℕ) (r : Refusal) → Answered status r → Contains all_statuses status
answered_listed status r (inl e) = subst (λ n. Contains all_statuses n) (sym e) (status_listed r)
answered_listed status r (inr e) = (6, omega arith, sym e)

-- a status that isn't that of want of memory is that of the refusal
of_refusal : (status n : ℕ) (r : Refusal) → Answered status r → status ≡ n → n ≢ 8 → status_of r ≡ n
of_refusal status n r (inl s) e other = sym s ∙ e
of_refusal status n r (inr s) e other = absurd (other (sym e ∙ s))

-- what is said of the answer of a command that isn't done
pub record Ended (files : Told) (words : List (List ℕ)) (faults later out_before out_after : ℕ)
    (before after : Option (List ℕ)) (status : ℕ) (r : Refusal) : Type 0 where
  pub answered : Answered status r
  pub cause : HasCause files words faults later r
  pub line : status ≢ 8 → IsPut out_before out_after before after (text_of r)

pub usage_of : (files : Told) (words : List (List ℕ)) (faults later out_before out_after : ℕ)
    (before after : Option (List ℕ)) (status : ℕ) (r : Refusal) →
    Ended files words faults later out_before out_after before after status r → status ≡ 2 →
    EndsByUsage words out_before out_after before after
usage_of files words faults later out_before out_after before after status r ended e =
    by r ended.cause (ended.line (λ o. omega (arith, e, o)))
    (of_refusal status 2 r ended.answered e (λ o. omega (arith, o)))
  where
    by : (r : Refusal) → HasCause files words faults later r → IsPut out_before out_after before after (text_of r) →
        status_of r ≡ 2 → EndsByUsage words out_before out_after before after
    by Usage cause line s = record { outside = cause; line = line }
    by (FileFault name) cause line s = absurd (omega (arith, s))
    by (FileTooLarge name) cause line s = absurd (omega (arith, s))
    by (BadDocument number at kind) cause line s = absurd (omega (arith, s))
    by (BadInstance index error) cause line s = absurd (omega (arith, s))
    by (BadScript number) cause line s = absurd (omega (arith, s))
    by (NotBuilt what) cause line s = absurd (omega (arith, s))
    by (JournalFull text) cause line s = absurd (omega (arith, s))
    by OutOfMemory cause line s = absurd (omega (arith, s))

pub file_fault_of : (files : Told) (words : List (List ℕ)) (faults later out_before out_after : ℕ)
    (before after : Option (List ℕ)) (status : ℕ) (r : Refusal) →
    Ended files words faults later out_before out_after before after status r → status ≡ 3 →
    EndsByFileFault files words faults later out_before out_after before after
file_fault_of files words faults later out_before out_after before after status r ended e =
    by r ended.cause (ended.line (λ o. omega (arith, e, o)))
    (of_refusal status 3 r ended.answered e (λ o. omega (arith, o)))
  where
    by : (r : Refusal) → HasCause files words faults later r → IsPut out_before out_after before after (text_of r) →
        status_of r ≡ 3 → EndsByFileFault files words faults later out_before out_after before after
    by (FileFault name) cause line s =
        record { rose = cause.1; name = name.now; named = cause.0; line = line }
    by Usage cause line s = absurd (omega (arith, s))
    by (FileTooLarge name) cause line s = absurd (omega (arith, s))
    by (BadDocument number at kind) cause line s = absurd (omega (arith, s))
    by (BadInstance index error) cause line s = absurd (omega (arith, s))
    by (BadScript number) cause line s = absurd (omega (arith, s))
    by (NotBuilt what) cause line s = absurd (omega (arith, s))
    by (JournalFull text) cause line s = absurd (omega (arith, s))
    by OutOfMemory cause line s = absurd (omega (arith, s))

pub too_large_of : (files : Told) (words : List (List ℕ)) (faults later out_before out_after : ℕ)
    (before after : Option (List ℕ)) (status : ℕ) (r : Refusal) →
    Ended files words faults later out_before out_after before after status r → status ≡ 10 →
    EndsByFileTooLarge files words out_before out_after before after
too_large_of files words faults later out_before out_after before after status r ended e =
    by r ended.cause (ended.line (λ o. omega (arith, e, o)))
    (of_refusal status 10 r ended.answered e (λ o. omega (arith, o)))
  where
    by : (r : Refusal) → HasCause files words faults later r → IsPut out_before out_after before after (text_of r) →
        status_of r ≡ 10 → EndsByFileTooLarge files words out_before out_after before after
    by (FileTooLarge name) cause line s = record { name = name.now; longer = cause; line = line }
    by Usage cause line s = absurd (omega (arith, s))
    by (FileFault name) cause line s = absurd (omega (arith, s))
    by (BadDocument number at kind) cause line s = absurd (omega (arith, s))
    by (BadInstance index error) cause line s = absurd (omega (arith, s))
    by (BadScript number) cause line s = absurd (omega (arith, s))
    by (NotBuilt what) cause line s = absurd (omega (arith, s))
    by (JournalFull text) cause line s = absurd (omega (arith, s))
    by OutOfMemory cause line s = absurd (omega (arith, s))

pub bad_document_of : (files : Told) (words : List (List ℕ)) (faults later out_before out_after : ℕ)
    (before after : Option (List ℕ)) (status : ℕ) (r : Refusal) →
    Ended files words faults later out_before out_after before after status r → status ≡ 4 →
    EndsByBadDocument files words out_before out_after before after
bad_document_of files words faults later out_before out_after before after status r ended e =
    by r ended.cause (ended.line (λ o. omega (arith, e, o)))
    (of_refusal status 4 r ended.answered e (λ o. omega (arith, o)))
  where
    by : (r : Refusal) → HasCause files words faults later r → IsPut out_before out_after before after (text_of r) →
        status_of r ≡ 4 → EndsByBadDocument files words out_before out_after before after
    by (BadDocument number at kind) cause line s =
        inl (record { document = number; number = at; kind = kind; fault = cause; line = line })
    by (BadInstance index error) cause line s =
        inr (record { index = index; error = error; fault = cause; line = line })
    by Usage cause line s = absurd (omega (arith, s))
    by (FileFault name) cause line s = absurd (omega (arith, s))
    by (FileTooLarge name) cause line s = absurd (omega (arith, s))
    by (BadScript number) cause line s = absurd (omega (arith, s))
    by (NotBuilt what) cause line s = absurd (omega (arith, s))
    by (JournalFull text) cause line s = absurd (omega (arith, s))
    by OutOfMemory cause line s = absurd (omega (arith, s))

pub bad_script_of : (files : Told) (words : List (List ℕ)) (faults later out_before out_after : ℕ)
    (before after : Option (List ℕ)) (status : ℕ) (r : Refusal) →
    Ended files words faults later out_before out_after before after status r → status ≡ 5 →
    EndsByBadScript files words out_before out_after before after
bad_script_of files words faults later out_before out_after before after status r ended e =
    by r ended.cause (ended.line (λ o. omega (arith, e, o)))
    (of_refusal status 5 r ended.answered e (λ o. omega (arith, o)))
  where
    by : (r : Refusal) → HasCause files words faults later r → IsPut out_before out_after before after (text_of r) →
        status_of r ≡ 5 → EndsByBadScript files words out_before out_after before after
    by (BadScript number) cause line s = record { number = number; fault = cause; line = line }
    by Usage cause line s = absurd (omega (arith, s))
    by (FileFault name) cause line s = absurd (omega (arith, s))
    by (FileTooLarge name) cause line s = absurd (omega (arith, s))
    by (BadDocument number at kind) cause line s = absurd (omega (arith, s))
    by (BadInstance index error) cause line s = absurd (omega (arith, s))
    by (NotBuilt what) cause line s = absurd (omega (arith, s))
    by (JournalFull text) cause line s = absurd (omega (arith, s))
    by OutOfMemory cause line s = absurd (omega (arith, s))

pub not_built_of : (files : Told) (words : List (List ℕ)) (faults later out_before out_after : ℕ)
    (before after : Option (List ℕ)) (status : ℕ) (r : Refusal) →
    Ended files words faults later out_before out_after before after status r → status ≡ 12 →
    EndsByNotBuilt files words out_before out_after before after
not_built_of files words faults later out_before out_after before after status r ended e =
    by r ended.cause (ended.line (λ o. omega (arith, e, o)))
    (of_refusal status 12 r ended.answered e (λ o. omega (arith, o)))
  where
    by : (r : Refusal) → HasCause files words faults later r → IsPut out_before out_after before after (text_of r) →
        status_of r ≡ 12 → EndsByNotBuilt files words out_before out_after before after
    by (NotBuilt what) cause line s = record { what = what; outside = cause; line = line }
    by (BadScript number) cause line s = absurd (omega (arith, s))
    by Usage cause line s = absurd (omega (arith, s))
    by (FileFault name) cause line s = absurd (omega (arith, s))
    by (FileTooLarge name) cause line s = absurd (omega (arith, s))
    by (BadDocument number at kind) cause line s = absurd (omega (arith, s))
    by (BadInstance index error) cause line s = absurd (omega (arith, s))
    by (JournalFull text) cause line s = absurd (omega (arith, s))
    by OutOfMemory cause line s = absurd (omega (arith, s))

pub journal_full_of : (files : Told) (words : List (List ℕ)) (faults later out_before out_after : ℕ)
    (before after : Option (List ℕ)) (status : ℕ) (r : Refusal) →
    Ended files words faults later out_before out_after before after status r → status ≡ 9 →
    EndsByJournalFull files words out_before out_after before after
journal_full_of files words faults later out_before out_after before after status r ended e =
    by r ended.cause (ended.line (λ o. omega (arith, e, o)))
    (of_refusal status 9 r ended.answered e (λ o. omega (arith, o)))
  where
    by : (r : Refusal) → HasCause files words faults later r → IsPut out_before out_after before after (text_of r) →
        status_of r ≡ 9 → EndsByJournalFull files words out_before out_after before after
    by (JournalFull text) cause line s = record { text = text.items; full = cause; line = line }
    by (NotBuilt what) cause line s = absurd (omega (arith, s))
    by (BadScript number) cause line s = absurd (omega (arith, s))
    by Usage cause line s = absurd (omega (arith, s))
    by (FileFault name) cause line s = absurd (omega (arith, s))
    by (FileTooLarge name) cause line s = absurd (omega (arith, s))
    by (BadDocument number at kind) cause line s = absurd (omega (arith, s))
    by (BadInstance index error) cause line s = absurd (omega (arith, s))
    by OutOfMemory cause line s = absurd (omega (arith, s))
