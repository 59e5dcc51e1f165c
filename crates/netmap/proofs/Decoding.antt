-- What bytes say, place by place.
use Rattle.std.proofs.lemmas.Grind.{common_steps}
use Rattle.std.proofs.Common.{◌≡◌, ℕ, ◌<◌, ◌≤◌, List, ◌++◌, length, get_or, None, Option, sym, ap, ◌∙◌, subst, ⊎_elim, arith}
use Rattle.std.proofs.lemmas.List.FromFn.{length-map-range_with_len, get_or-map-range_with_len}
use Rattle.std.proofs.lemmas.List.{same_lists, get_or_past, get_or_default}
use Rattle.std.proofs.lemmas.Bool.{cases_lt}
use Rattle.netmap.specs.declared.link.Link.{Link}
use Rattle.questions.specs.Asking.{first_no}
use Rattle.netmap.specs.Layout.{two_bytes, image_size, Images}
use Rattle.netmap.specs.Net.{Net, Sound, places, link_at}
use Rattle.netmap.specs.Reading.{two_at, link_in, place_of, decode, field_questions}
use Rattle.netmap.specs.Spans.{AtPlace}
use Rattle.netmap.proofs.Changes.{InLimits}
use Rattle.netmap.proofs.Layouts.{LaysOut, lays_out_encode}
use Rattle.netmap.proofs.PlaceBytes.{place_read, place_back, place_fit}
use Rattle.netmap.proofs.Soundness.{none_some}

pub decode_at : (n m : ℕ) (bs : List ℕ) (k : ℕ) → k < m → link_at (decode n m bs) k ≡ place_of (link_in m bs k)
decode_at n m bs k h = get_or-map-range_with_len (λ p. place_of (link_in m bs p)) 0 m k k None h (omega arith)

pub decode_places : (n m : ℕ) (bs : List ℕ) → places (decode n m bs) ≡ m
decode_places n m bs = length-map-range_with_len (λ p. place_of (link_in m bs p)) 0 m

-- bytes that lay a sound network out say it
pub decode_laid_out : (bs : List ℕ) (net : Net) → LaysOut bs net → Sound net → decode net.nodes (places net) bs ≡ net
decode_laid_out bs net s sound =
    let n = net.nodes in
    let m = places net in
    let f : List (Option Link) → Net = λ ls. record { nodes = n; links = ls } in
    ap f (same_lists (decode n m bs).links net.links (decode_places n m bs)
    (λ k d lt.
    let h : k < m = omega (arith, decode_places n m bs) in
    get_or-map-range_with_len (λ p. place_of (link_in m bs p)) 0 m k k d h (omega arith)
    ∙ place_read bs n m k (link_at net k) sound.nodes_high (sound.each k) (s.place k h)
    ∙ get_or_default net.links k None d h))

-- bytes whose sizes and places pass the questions
pub record Passed (bs : List ℕ) (n m : ℕ) : Type 0 where
  pub fits : (i : ℕ) → get_or bs i 0 < 256
  pub nodes : n ≡ two_at bs 0
  pub count : m ≡ two_at bs 2
  pub limits : InLimits n m
  pub long : length bs ≡ image_size m
  pub each : (k : ℕ) → k < m → first_no (field_questions n (link_in m bs k) k) ≡ None

sizes_laid_out : (bs : List ℕ) (n m : ℕ) → Passed bs n m → (j : ℕ) → j < 4 → get_or bs j 0 ≡ get_or (two_bytes n ++ two_bytes m) j 0
sizes_laid_out bs n m p = grind (arith, common_steps)

pub passed_lays_out : (bs : List ℕ) (n m : ℕ) → Passed bs n m → LaysOut bs (decode n m bs)
passed_lays_out bs n m p =
    let dp = decode_places n m bs in
    record {
      long = p.long ∙ ap image_size (sym dp);
      sizes = λ j h. sizes_laid_out bs n m p j h ∙ ap (λ x. get_or (two_bytes n ++ two_bytes x) j 0) (sym dp);
      place = λ k h.
          let lt : k < m = omega (arith, dp) in
          subst (λ x. AtPlace bs x k (link_at (decode n m bs) k)) (sym dp) (subst (AtPlace bs m k) (sym (decode_at n m bs k lt)) (place_back bs p.fits n m k (p.each k lt)));
    }

pub passed_sound : (bs : List ℕ) (n m : ℕ) → Passed bs n m → Sound (decode n m bs)
passed_sound bs n m p = record {
  nodes_low = p.limits.low;
  nodes_high = p.limits.high;
  few = omega (arith, decode_places n m bs, p.limits.few);
  each = λ k l e.
      ⊎_elim
      (λ (h : k < m). place_fit bs p.fits n m k (p.each k h) l (sym (decode_at n m bs k h) ∙ e))
      (λ (h : m ≤ k). absurd (none_some (link_at (decode n m bs) k) l (get_or_past (decode n m bs).links k None (omega (arith, decode_places n m bs))) e))
      (cases_lt k m);
}

pub passed_images : (bs : List ℕ) (n m : ℕ) → Passed bs n m → Images bs (decode n m bs)
passed_images bs n m p = record { sound = passed_sound bs n m p; whole = lays_out_encode bs (decode n m bs) (passed_lays_out bs n m p) }
