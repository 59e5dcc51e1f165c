-- The bytes of one place and the fields that they say.
use Rattle.std.proofs.lemmas.Grind.{common_steps}
use Rattle.std.proofs.Common.{◌≡◌, ℕ, ◌+◌, ◌*◌, ◌/◌, ◌%◌, ◌<◌, ◌≤◌, Bool, true, false, cond, List, [], ◌∷◌, get_or, Some, None, Option, refl, ap, ◌∙◌, arith, below_none, below_more}
use Rattle.questions.specs.declared.denial.Question.TheVariants.{EmptyBlank}
use Rattle.netmap.specs.declared.link.Link.{Link}
use Rattle.questions.specs.Asking.{asks, first_no}
use Rattle.netmap.specs.Changes.{link_questions}
use Rattle.questions.specs.Denials.{of_map}
use Rattle.netmap.specs.Layout.{ends, figures}
use Rattle.netmap.specs.Net.{Fit, SoundLink}
use Rattle.netmap.specs.Reading.{two_at, four_at, ends_at, figures_at, microseconds, link_in, marked_empty, blank, place_of, field_questions}
use Rattle.netmap.specs.Spans.{AtPlace}
use Rattle.questions.proofs.Asking.{all_yes}
use Rattle.netmap.proofs.Changes.{link_passes, link_granted}
use Rattle.netmap.proofs.Soundness.{fit_none, fit_some}

-- numbers of two and of four bytes
pub two_is : (a b n : ℕ) → a ≡ n / 256 % 256 → b ≡ n % 256 → n ≤ 65535 → a * 256 + b ≡ n
two_is a b n p q h = omega arith

four_is : (a b c d n : ℕ) → a ≡ n / 16777216 % 256 → b ≡ n / 65536 % 256 → c ≡ n / 256 % 256 → d ≡ n % 256 → n ≤ 1000000 → a * 16777216 + b * 65536 + c * 256 + d ≡ n
four_is a b c d n p q r s h = omega arith

pub two_back : (a b : ℕ) → a < 256 → b < 256 → (a ≡ (a * 256 + b) / 256 % 256) × (b ≡ (a * 256 + b) % 256)
two_back a b h g = (omega arith, omega arith)

four_back : (a b c d : ℕ) → a < 256 → b < 256 → c < 256 → d < 256
    → (a ≡ (a * 16777216 + b * 65536 + c * 256 + d) / 16777216 % 256) × (b ≡ (a * 16777216 + b * 65536 + c * 256 + d) / 65536 % 256) × (c ≡ (a * 16777216 + b * 65536 + c * 256 + d) / 256 % 256) × (d ≡ (a * 16777216 + b * 65536 + c * 256 + d) % 256)
four_back a b c d h g i j = (omega arith, omega arith, omega arith, omega arith)

at_index : (bs : List ℕ) (i j v : ℕ) → i ≡ j → get_or bs j 0 ≡ v → get_or bs i 0 ≡ v
at_index bs i j v e h = ap (λ x. get_or bs x 0) e ∙ h

-- what the bytes of a place say, from the fields that they hold
read_fields : (bs : List ℕ) (m k : ℕ) (o : Option Link) → AtPlace bs m k o → (t h w d f : ℕ) → w ≤ 65535 → d ≤ 1000000 → f ≤ 1000000
    → get_or (ends o) 0 0 ≡ t → get_or (ends o) 1 0 ≡ h
    → (get_or (figures o) 0 0 ≡ w / 256 % 256) × (get_or (figures o) 1 0 ≡ w % 256)
    → (get_or (figures o) 2 0 ≡ d / 16777216 % 256) × (get_or (figures o) 3 0 ≡ d / 65536 % 256) × (get_or (figures o) 4 0 ≡ d / 256 % 256) × (get_or (figures o) 5 0 ≡ d % 256)
    → (get_or (figures o) 6 0 ≡ f / 16777216 % 256) × (get_or (figures o) 7 0 ≡ f / 65536 % 256) × (get_or (figures o) 8 0 ≡ f / 256 % 256) × (get_or (figures o) 9 0 ≡ f % 256)
    → ◌≡◌ {A = Link} (link_in m bs k) (record { tail = t; head = h; weight = w; delay = microseconds d; figure = f })
read_fields bs m k o at t h w d f wb db fb et eh ew ed ef =
    let from = figures_at m k in
    let byte : (i j : ℕ) → j < 10 → i ≡ from + j → get_or bs i 0 ≡ get_or (figures o) j 0 = λ i j lt e. at_index bs i (from + j) _ e (at.figures j lt) in
    let pt : get_or bs (ends_at k) 0 ≡ t = at_index bs (ends_at k) (ends_at k + 0) _ (omega arith) (at.ends 0 (omega arith) ∙ et) in
    let ph : get_or bs (ends_at k + 1) 0 ≡ h = at.ends 1 (omega arith) ∙ eh in
    let pw : two_at bs from ≡ w = two_is _ _ w (byte from 0 (omega arith) (omega arith) ∙ ew.0) (byte (from + 1) 1 (omega arith) refl ∙ ew.1) wb in
    let pd : four_at bs (from + 2) ≡ d = four_is _ _ _ _ d (byte (from + 2) 2 (omega arith) refl ∙ ed.0) (byte (from + 2 + 1) 3 (omega arith) (omega arith) ∙ ed.1) (byte (from + 2 + 2) 4 (omega arith) (omega arith) ∙ ed.2) (byte (from + 2 + 3) 5 (omega arith) (omega arith) ∙ ed.3) db in
    let pf : four_at bs (from + 6) ≡ f = four_is _ _ _ _ f (byte (from + 6) 6 (omega arith) refl ∙ ef.0) (byte (from + 6 + 1) 7 (omega arith) (omega arith) ∙ ef.1) (byte (from + 6 + 2) 8 (omega arith) (omega arith) ∙ ef.2) (byte (from + 6 + 3) 9 (omega arith) (omega arith) ∙ ef.3) fb in
    λ i. record { tail = pt i; head = ph i; weight = pw i; delay = microseconds (pd i); figure = pf i }

link_read : (bs : List ℕ) (n m k : ℕ) (l : Link) → SoundLink n l → AtPlace bs m k (Some l) → link_in m bs k ≡ l
link_read bs n m k l s at =
    read_fields bs m k (Some l) at l.tail l.head l.weight l.delay.0 l.figure s.weight_high (omega (arith, s.delay)) s.figure
    refl refl (refl, refl) (refl, refl, refl, refl) (refl, refl, refl, refl)

empty_read : (bs : List ℕ) (m k : ℕ) → AtPlace bs m k None → ◌≡◌ {A = Link} (link_in m bs k) (record { tail = 255; head = 255; weight = 0; delay = microseconds 0; figure = 0 })
empty_read bs m k at =
    read_fields bs m k None at 255 255 0 0 0 (omega arith) (omega arith) (omega arith)
    refl refl (refl, refl) (refl, refl, refl, refl) (refl, refl, refl, refl)

not_marked : (n : ℕ) (l : Link) → n ≤ 64 → SoundLink n l → marked_empty l ≡ false
not_marked n l few s = grind (arith, common_steps)

pub place_read : (bs : List ℕ) (n m k : ℕ) (o : Option Link) → n ≤ 64 → Fit n o → AtPlace bs m k o → place_of (link_in m bs k) ≡ o
place_read bs n m k None few fit at = ap place_of (empty_read bs m k at)
place_read bs n m k (Some l) few fit at =
    let s = fit l refl in
    let plain : place_of l ≡ Some l = simp (not_marked n l few s) in
    ap place_of (link_read bs n m k l s at) ∙ plain

-- a place that holds nothing or a sound link passes its questions
pub place_granted : (bs : List ℕ) (n m k : ℕ) (o : Option Link) → n ≤ 64 → Fit n o → AtPlace bs m k o → first_no (field_questions n (link_in m bs k) k) ≡ None
place_granted bs n m k None few fit at = ap (λ l. first_no (field_questions n l k)) (empty_read bs m k at)
place_granted bs n m k (Some l) few fit at =
    let s = fit l refl in
    ap (λ x. first_no (field_questions n x k)) (link_read bs n m k l s at) ∙ simp (not_marked n l few s) (link_granted n l k s)

-- each of ten
ten : (P : ℕ → Type 0) → P 0 → P 1 → P 2 → P 3 → P 4 → P 5 → P 6 → P 7 → P 8 → P 9 → (j : ℕ) → j < 10 → P j
ten P a b c d e f g h i k = grind (arith, common_steps)

-- the figures that bytes say, written again, are those bytes
figures_back : (bs : List ℕ) → ((i : ℕ) → get_or bs i 0 < 256) → (m k j : ℕ) → j < 10 → get_or bs (figures_at m k + j) 0 ≡ get_or (figures (Some (link_in m bs k))) j 0
figures_back bs fits m k =
    let at = figures_at m k in
    let w = two_back _ _ (fits at) (fits (at + 1)) in
    let d = four_back _ _ _ _ (fits (at + 2)) (fits (at + 2 + 1)) (fits (at + 2 + 2)) (fits (at + 2 + 3)) in
    let f = four_back _ _ _ _ (fits (at + 6)) (fits (at + 6 + 1)) (fits (at + 6 + 2)) (fits (at + 6 + 3)) in
    ten (λ j. get_or bs (figures_at m k + j) 0 ≡ get_or (figures (Some (link_in m bs k))) j 0)
    (at_index bs (at + 0) at _ (omega arith) w.0)
    w.1
    d.0
    (at_index bs (at + 3) (at + 2 + 1) _ (omega arith) d.1)
    (at_index bs (at + 4) (at + 2 + 2) _ (omega arith) d.2)
    (at_index bs (at + 5) (at + 2 + 3) _ (omega arith) d.3)
    f.0
    (at_index bs (at + 7) (at + 6 + 1) _ (omega arith) f.1)
    (at_index bs (at + 8) (at + 6 + 2) _ (omega arith) f.2)
    (at_index bs (at + 9) (at + 6 + 3) _ (omega arith) f.3)

blank_figures : (l : Link) → blank l ≡ true → figures (Some l) ≡ figures None
blank_figures l e = grind (arith, common_steps)

figures_by : (n : ℕ) (l : Link) (p : ℕ) (b : Bool) → first_no (cond b (asks (of_map EmptyBlank p) (blank l) ∷ []) (link_questions n l p)) ≡ None → figures (Some l) ≡ figures (cond b None (Some l))
figures_by n l p true e = blank_figures l (all_yes (asks (of_map EmptyBlank p) (blank l) ∷ []) e).0
figures_by n l p false e = refl

ends_by : (l : Link) (b : Bool) → marked_empty l ≡ b → ends (Some l) ≡ ends (cond b None (Some l))
ends_by l true e = grind (arith, common_steps)
ends_by l false e = grind (arith, common_steps)

-- a place that passes its questions holds what its bytes say, and that is nothing or a sound link
pub place_back : (bs : List ℕ) → ((i : ℕ) → get_or bs i 0 < 256) → (n m k : ℕ) → first_no (field_questions n (link_in m bs k) k) ≡ None → AtPlace bs m k (place_of (link_in m bs k))
place_back bs fits n m k e =
    let l = link_in m bs k in
    let two : (j : ℕ) → j < 2 → get_or bs (ends_at k + j) 0 ≡ get_or (ends (Some l)) j 0 =
    below_more (λ j. get_or bs (ends_at k + j) 0 ≡ get_or (ends (Some l)) j 0) 1
    (below_more (λ j. get_or bs (ends_at k + j) 0 ≡ get_or (ends (Some l)) j 0) 0 (below_none (λ j. get_or bs (ends_at k + j) 0 ≡ get_or (ends (Some l)) j 0)) (at_index bs (ends_at k + 0) (ends_at k) _ (omega arith) refl))
    refl in
    record {
      ends = λ j h. two j h ∙ ap (λ es. get_or es j 0) (ends_by l (marked_empty l) refl);
      figures = λ j h. figures_back bs fits m k j h ∙ ap (λ fs. get_or fs j 0) (figures_by n l k (marked_empty l) e);
    }

fit_by : (n : ℕ) (l : Link) (p : ℕ) (b : Bool) → first_no (cond b (asks (of_map EmptyBlank p) (blank l) ∷ []) (link_questions n l p)) ≡ None → l.weight ≤ 65535 → Fit n (cond b None (Some l))
fit_by n l p true e high = fit_none n
fit_by n l p false e high = fit_some n l (link_passes n l p e high)

pub place_fit : (bs : List ℕ) → ((i : ℕ) → get_or bs i 0 < 256) → (n m k : ℕ) → first_no (field_questions n (link_in m bs k) k) ≡ None → Fit n (place_of (link_in m bs k))
place_fit bs fits n m k e =
    let at = figures_at m k in
    fit_by n (link_in m bs k) k (marked_empty (link_in m bs k)) e (omega (arith, fits at, fits (at + 1)))
