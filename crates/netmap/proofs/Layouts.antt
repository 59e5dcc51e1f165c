-- Bytes that hold the sizes and each place of a network are its image.
use Rattle.std.proofs.Common.{◌≡◌, ℕ, ◌+◌, ◌-◌, ◌*◌, ◌/◌, ◌%◌, ◌<◌, ◌≤◌, List, [], ◌∷◌, ◌++◌, length, get_or, take, Some, None, Option, sym, refl, ap, ◌∙◌, subst, ⊎_elim, mul-zero, mul-suc, arith, length-append}
use Rattle.std.specs.List.{flat_map}
use Rattle.std.proofs.lemmas.List.{same_lists, get_or_append_left, get_or-append-add, get_or_default, length-take-le}
use Rattle.std.proofs.lemmas.List.Concat.{get_or-flat_map}
use Rattle.std.proofs.lemmas.Bool.{cases_lt}
use Rattle.netmap.specs.declared.link.Link.{Link}
use Rattle.netmap.specs.Layout.{two_bytes, ends, figures, encode, image_size}
use Rattle.netmap.specs.Net.{Net, places, link_at}
use Rattle.netmap.specs.Spans.{AtPlace}

abbrev pub header : Net → List ℕ
header net = two_bytes net.nodes ++ two_bytes (places net)

pub record LaysOut (bs : List ℕ) (net : Net) : Type 0 where
  pub long : length bs ≡ image_size (places net)
  pub sizes : (j : ℕ) → j < 4 → get_or bs j 0 ≡ get_or (header net) j 0
  pub place : (k : ℕ) → k < places net → AtPlace bs (places net) k (link_at net k)

pub ends_long : (o : Option Link) → length (ends o) ≡ 2
ends_long None = refl
ends_long (Some l) = refl

pub figures_long : (o : Option Link) → length (figures o) ≡ 10
figures_long None = refl
figures_long (Some l) = refl

joined_long : {X : Type 0} (f : X → List ℕ) (w : ℕ) → ((x : X) → length (f x) ≡ w) → (xs : List X) → length (flat_map f xs) ≡ w * length xs
joined_long f w h [] = sym (mul-zero w)
joined_long f w h (x ∷ xs) = length-append (f x) (flat_map f xs) ∙ omega (arith, h x, joined_long f w h xs, mul-suc w (length xs))

joined_at : {X : Type 0} (f : X → List ℕ) (w : ℕ) → ((x : X) → length (f x) ≡ w) → (xs : List X) (k j : ℕ) (d : X) → k < length xs → j < w → get_or (flat_map f xs) (w * k + j) 0 ≡ get_or (f (get_or xs k d)) j 0
joined_at f w h xs k j d lt lw =
    let before : length (flat_map f (take k xs)) ≡ w * k = joined_long f w h (take k xs) ∙ ap (λ n. w * n) (length-take-le k xs (omega arith)) in
    ap (λ n. get_or (flat_map f xs) (n + j) 0) (sym before) ∙ get_or-flat_map f xs k j d 0 lt (omega (arith, h (get_or xs k d)))

pub encode_lays_out : (net : Net) → LaysOut (encode net) net
encode_lays_out net =
    let m = places net in
    let es = flat_map ends net.links in
    let fs = flat_map figures net.links in
    let le : length es ≡ 2 * m = joined_long ends 2 ends_long net.links in
    let lf : length fs ≡ 10 * m = joined_long figures 10 figures_long net.links in
    record {
      long = let t : length (es ++ fs) ≡ 12 * m = length-append es fs ∙ omega (arith, le, lf) in length-append (header net) (es ++ fs) ∙ omega (arith, t);
      sizes = λ j h. get_or_append_left (header net) (es ++ fs) 0 j h;
      place = λ k h. record {
        ends = λ j g.
            let same : 4 + 2 * k + j ≡ 4 + (2 * k + j) = omega arith in
            ap (λ i. get_or (encode net) i 0) same ∙ get_or-append-add (header net) (es ++ fs) (2 * k + j) 0
            ∙ get_or_append_left es fs 0 (2 * k + j) (omega (arith, le))
            ∙ joined_at ends 2 ends_long net.links k j None h g;
        figures = λ j g.
            let same : 4 + 2 * m + 10 * k + j ≡ 4 + (length es + (10 * k + j)) = omega (arith, le) in
            ap (λ i. get_or (encode net) i 0) same ∙ get_or-append-add (header net) (es ++ fs) (length es + (10 * k + j)) 0
            ∙ get_or-append-add es fs (10 * k + j) 0
            ∙ joined_at figures 10 figures_long net.links k j None h g;
      };
    }

-- each byte is one of the sizes, of the ends or of the figures
same_byte : (xs ys : List ℕ) (net : Net) → LaysOut xs net → LaysOut ys net → (i : ℕ) → i < length xs → get_or xs i 0 ≡ get_or ys i 0
same_byte xs ys net a b i h =
    let m = places net in
    ⊎_elim
    (λ (low : i < 4). a.sizes i low ∙ sym (b.sizes i low))
    (λ (high : 4 ≤ i). ⊎_elim
    (λ (e : i < 4 + 2 * m).
    let k = (i - 4) / 2 in
    let j = (i - 4) % 2 in
    let same : i ≡ 4 + 2 * k + j = omega arith in
    let kl : k < m = omega arith in
    let jl : j < 2 = omega arith in
    ap (λ x. get_or xs x 0) same ∙ (a.place k kl).ends j jl ∙ sym ((b.place k kl).ends j jl) ∙ ap (λ x. get_or ys x 0) (sym same))
    (λ (f : 4 + 2 * m ≤ i).
    let k = (i - (4 + 2 * m)) / 10 in
    let j = (i - (4 + 2 * m)) % 10 in
    let same : i ≡ 4 + 2 * m + 10 * k + j = omega arith in
    let kl : k < m = omega (arith, a.long) in
    let jl : j < 10 = omega arith in
    ap (λ x. get_or xs x 0) same ∙ (a.place k kl).figures j jl ∙ sym ((b.place k kl).figures j jl) ∙ ap (λ x. get_or ys x 0) (sym same))
    (cases_lt i (4 + 2 * m)))
    (cases_lt i 4)

pub lays_out_encode : (bs : List ℕ) (net : Net) → LaysOut bs net → encode net ≡ bs
lays_out_encode bs net s =
    let t = encode_lays_out net in
    same_lists (encode net) bs (t.long ∙ sym s.long)
    (λ k d h. get_or_default (encode net) k d 0 h ∙ same_byte (encode net) bs net t s k h ∙ sym (get_or_default bs k d 0 (omega (arith, t.long, s.long))))

pub image_lays_out : (bs : List ℕ) (net : Net) → encode net ≡ bs → LaysOut bs net
image_lays_out bs net e = subst (λ x. LaysOut x net) e (encode_lays_out net)
