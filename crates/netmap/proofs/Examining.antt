-- The questions of an image, from its header and each of its places.
use Rattle.std.proofs.lemmas.Grind.{common_steps}
use Rattle.std.proofs.Common.{◌≡◌, ℕ, ◌<◌, List, length, get_or, Some, None, sym, refl, ap, ◌∙◌, subst, arith}
use Rattle.std.specs.List.{range_with_len, flat_map}
use Rattle.questions.specs.declared.denial.Denial.{Denial}
use Rattle.netmap.specs.declared.link.Link.{Link}
use Rattle.questions.specs.Asking.{Asked, first_no}
use Rattle.netmap.specs.Layout.{image_size}
use Rattle.netmap.specs.Reading.{two_at, link_in, field_questions, header_questions, image_denial}
use Rattle.questions.proofs.Asking.{first_after, none_all, some_at}
use Rattle.netmap.proofs.Changes.{InLimits}
use Rattle.netmap.proofs.Decoding.{Passed}

-- the questions of a place, by the sizes of the header
abbrev Q : List ℕ → ℕ → List Asked
Q bs p = field_questions (two_at bs 0) (link_in (two_at bs 2) bs p) p

pub record Header (bs : List ℕ) : Type 0 where
  pub limits : InLimits (two_at bs 0) (two_at bs 2)
  pub long : length bs ≡ image_size (two_at bs 2)

pub header_passes : (bs : List ℕ) → first_no (header_questions bs) ≡ None → Header bs
header_passes bs e = grind (arith, common_steps)

pub header_granted : (bs : List ℕ) → Header bs → first_no (header_questions bs) ≡ None
header_granted bs h = grind (arith, common_steps)

-- all places pass, or the first that does not denies
pub image_granted : (bs : List ℕ) → first_no (header_questions bs) ≡ None → ((k : ℕ) → k < two_at bs 2 → first_no (Q bs k) ≡ None) → image_denial bs ≡ None
image_granted bs h each =
    first_after (header_questions bs) (flat_map (Q bs) (range_with_len 0 (two_at bs 2))) h
    ∙ none_all (Q bs) 0 (two_at bs 2) (λ k l u. each k (omega arith))

pub image_denied : (bs : List ℕ) (p : ℕ) (d : Denial) → first_no (header_questions bs) ≡ None → ((k : ℕ) → k < p → first_no (Q bs k) ≡ None) → p < two_at bs 2 → first_no (Q bs p) ≡ Some d → image_denial bs ≡ Some d
image_denied bs p d h each lt e =
    first_after (header_questions bs) (flat_map (Q bs) (range_with_len 0 (two_at bs 2))) h
    ∙ some_at (Q bs) 0 (two_at bs 2) p d (omega arith) (omega arith) (λ k l u. each k u) e

-- as the code asks them, of the sizes and the link that it read
pub as_asked : (bs : List ℕ) (n m k : ℕ) (l : Link) → n ≡ two_at bs 0 → m ≡ two_at bs 2 → l ≡ link_in m bs k → first_no (field_questions n l k) ≡ first_no (Q bs k)
as_asked bs n m k l en em el = grind (arith, common_steps)

pub all_passed : (bs : List ℕ) (n m : ℕ) → ((i : ℕ) → get_or bs i 0 < 256) → n ≡ two_at bs 0 → m ≡ two_at bs 2 → first_no (header_questions bs) ≡ None → ((k : ℕ) → k < m → first_no (Q bs k) ≡ None) → Passed bs n m
all_passed bs n m fits en em h each =
    let head = header_passes bs h in
    record {
      fits = fits;
      nodes = en;
      count = em;
      limits = subst (λ x. InLimits x m) (sym en) (subst (InLimits (two_at bs 0)) (sym em) head.limits);
      long = head.long ∙ ap image_size (sym em);
      each = λ k lt. as_asked bs n m k (link_in m bs k) en em refl ∙ each k lt;
    }
