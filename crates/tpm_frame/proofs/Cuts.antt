-- A stream is cut in one way, however it comes.
use Rattle.std.proofs.Common.{◌≡◌, ℕ, List, [], ◌∷◌, ◌++◌, length, sym, refl, ap, ◌∙◌, append_assoc}
use Rattle.std.specs.List.{concat}
use Rattle.std.proofs.lemmas.List.{append_cancel_left, take_at}
use Rattle.std.proofs.lemmas.List.Elements.{All-append, All-cons, All-nil, All-tail, All-head}
use Rattle.std.proofs.lemmas.List.Folds.{concat-append}
use Rattle.tpm_frame.specs.Frames.{IsFrame, IsPartOfFrame, AreCut}

-- no frame is the start of another
abbrev pub ArePrefixFree : Type 0
ArePrefixFree = (a b x y : List ℕ) → IsFrame a → IsFrame b → a ++ x ≡ b ++ y → a ≡ b

pub cut_more : (cut : List (List ℕ)) (stream rest piece frame back : List ℕ) → AreCut cut stream rest → rest ++ piece ≡ frame ++ back → IsFrame frame → AreCut (cut ++ frame ∷ []) (stream ++ piece) back
cut_more cut stream rest piece frame back so_far parts whole = record {
  each = All-append IsFrame cut (frame ∷ []) so_far.each (All-cons IsFrame frame [] whole (All-nil IsFrame));
  joined = ap (λ (s : List ℕ). s ++ piece) so_far.joined ∙ append_assoc (concat cut) rest piece ∙ ap (λ (s : List ℕ). concat cut ++ s) parts ∙ sym (rw (concat-append cut (frame ∷ [])) (simp append_assoc));
}

-- a part doesn't begin with a frame
no_first : (rest frame back : List ℕ) → IsPartOfFrame rest → rest ≡ frame ++ back → IsFrame frame → ⊥
no_first rest frame back part is whole = part tt (length frame) (rw (is, take_at frame back (length frame) refl) whole)

pub one_cut : ArePrefixFree → (cut others : List (List ℕ)) (stream rest left : List ℕ) → AreCut cut stream rest → IsPartOfFrame rest → AreCut others stream left → IsPartOfFrame left → (cut ≡ others) × (rest ≡ left)
one_cut apart [] [] stream rest left p part q part' = (refl, sym p.joined ∙ q.joined)
one_cut apart [] (b ∷ others) stream rest left p part q part' =
    absurd (no_first rest b (concat others ++ left) part (sym p.joined ∙ q.joined ∙ append_assoc b (concat others) left) (All-head IsFrame b others q.each))
one_cut apart (a ∷ cut) [] stream rest left p part q part' =
    absurd (no_first left a (concat cut ++ rest) part' (sym q.joined ∙ p.joined ∙ append_assoc a (concat cut) rest) (All-head IsFrame a cut p.each))
one_cut apart (a ∷ cut) (b ∷ others) stream rest left p part q part' =
    let both : a ++ (concat cut ++ rest) ≡ b ++ (concat others ++ left) = sym (append_assoc a (concat cut) rest) ∙ sym p.joined ∙ q.joined ∙ append_assoc b (concat others) left in
    let same : a ≡ b = apart a b (concat cut ++ rest) (concat others ++ left) (All-head IsFrame a cut p.each) (All-head IsFrame b others q.each) both in
    let behind : concat cut ++ rest ≡ concat others ++ left = append_cancel_left a _ _ (both ∙ ap (λ (s : List ℕ). s ++ (concat others ++ left)) (sym same)) in
    let tail = one_cut apart cut others (concat cut ++ rest) rest left (record { each = All-tail IsFrame a cut p.each; joined = refl }) part (record { each = All-tail IsFrame b others q.each; joined = behind }) part' in
    (ap (λ (s : List ℕ). s ∷ cut) same ∙ ap (λ (ss : List (List ℕ)). b ∷ ss) tail.0, tail.1)
