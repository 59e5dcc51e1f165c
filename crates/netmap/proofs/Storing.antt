-- Storing a network, its sizes and then place by place.
use Rattle.std.proofs.Common.{◌≡◌, ℕ, ◌+◌, ◌-◌, ◌*◌, ◌<◌, ◌≤◌, List, ◌++◌, length, get_or, take, drop, sym, ap, ◌∙◌, subst, ⊎_elim, arith, length-drop}
use lib.Seq.{take-append-le}
use Rattle.std.proofs.lemmas.List.{same_lists, get_or-take, get_or-drop, get_or_default, length-take-le, take-append-drop, take_all}
use Rattle.std.proofs.lemmas.Bool.{cases_eq}
use Rattle.netmap.specs.Layout.{encode, image_size}
use Rattle.netmap.specs.Net.{Net, Sound, places, link_at}
use Rattle.netmap.specs.Spans.{Written, AtPlace, PlaceWritten}
use Rattle.netmap.specs.Storing.{stored, OpensAs}
use Rattle.netmap.proofs.Layouts.{LaysOut, header, encode_lays_out, lays_out_encode}
use Rattle.netmap.proofs.RoundTrips.{opens_as}
use Rattle.netmap.proofs.Writing.{place_kept, sizes_outside, past_outside}

-- the first p places are stored, and the sizes and what lies past the image are as they were
pub record Filled (old new : List ℕ) (net : Net) (p : ℕ) : Type 0 where
  pub long : length new ≡ length old
  pub sizes : (j : ℕ) → j < 4 → get_or new j 0 ≡ get_or old j 0
  pub place : (k : ℕ) → k < p → AtPlace new (places net) k (link_at net k)
  pub past : (i : ℕ) → image_size (places net) ≤ i → get_or new i 0 ≡ get_or old i 0

pub filled_more : (old bs new : List ℕ) (net : Net) (p : ℕ) → Filled old bs net p → p < places net → PlaceWritten bs new (places net) p (link_at net p) → Filled old new net (p + 1)
filled_more old bs new net p s lt w =
    let m = places net in
    record {
      long = w.long ∙ s.long;
      sizes = λ j h. w.elsewhere j (sizes_outside m p j h) ∙ s.sizes j h;
      place = λ k h.
          ⊎_elim
          (λ (e : k ≡ p). subst (λ x. AtPlace new m x (link_at net x)) (sym e) w.here)
          (λ (ne : k ≡ p → ⊥). place_kept bs new m p k (link_at net p) (link_at net k) ne (omega arith) lt w (s.place k (omega arith)))
          (cases_eq k p);
      past = λ i h. w.elsewhere i (past_outside m p i lt h) ∙ s.past i h;
    }

pub all_stored : (old mid new : List ℕ) (net : Net) → Written old mid 0 (header net) 4 → Filled mid new net (places net) → image_size (places net) ≤ length old → new ≡ stored net old
all_stored old mid new net a s room =
    let n = image_size (places net) in
    let el : length (encode net) ≡ n = (encode_lays_out net).long in
    let at_front : (i : ℕ) → i < n → get_or (take n new) i 0 ≡ get_or new i 0 = λ i h. get_or-take n new i 0 h in
    let laid : LaysOut (take n new) net = record {
      long = length-take-le n new (omega (arith, s.long, a.long));
      sizes = λ j h. at_front j (omega arith) ∙ s.sizes j h ∙ (let same : j ≡ 0 + j = omega arith in ap (λ x. get_or mid x 0) same ∙ a.inside j h);
      place = λ k h. record {
        ends = λ j g. at_front (4 + 2 * k + j) (omega arith) ∙ (s.place k h).ends j g;
        figures = λ j g. at_front (4 + 2 * places net + 10 * k + j) (omega arith) ∙ (s.place k h).figures j g;
      };
    } in
    let long : length new ≡ length old = s.long ∙ a.long in
    let rest : drop n new ≡ drop n old =
    same_lists (drop n new) (drop n old) (length-drop n new ∙ ap (λ x. x - n) long ∙ sym (length-drop n old))
    (λ k d h.
    let lt : n + k < length new = omega (arith, length-drop n new) in
    get_or-drop n new k d ∙ get_or_default new (n + k) d 0 lt ∙ s.past (n + k) (omega arith) ∙ a.past (n + k) (omega arith)
    ∙ sym (get_or_default old (n + k) d 0 (omega (arith, long))) ∙ sym (get_or-drop n old k d)) in
    sym (take-append-drop n new)
    ∙ ap (λ x. x ++ drop n new) (sym (lays_out_encode (take n new) net laid))
    ∙ ap (λ x. encode net ++ x) rest
    ∙ ap (λ x. encode net ++ drop x old) (sym el)

-- what was stored opens as the same network
pub stored_opens : (net : Net) (space : List ℕ) → Sound net → OpensAs (take (image_size (places net)) (stored net space)) net
stored_opens net space s =
    let el : length (encode net) ≡ image_size (places net) = (encode_lays_out net).long in
    let front : take (image_size (places net)) (stored net space) ≡ encode net =
    take-append-le (image_size (places net)) (encode net) (drop (length (encode net)) space) (omega (arith, el))
    ∙ take_all (image_size (places net)) (encode net) (omega (arith, el)) in
    opens_as _ net (record { sound = s; whole = sym front })
