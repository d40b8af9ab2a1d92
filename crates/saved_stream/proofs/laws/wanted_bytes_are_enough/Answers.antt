use Rattle.std.proofs.Common.{◌≡◌, ◌≢◌, ℕ, ◌<◌, List, [], ◌++◌, length, take, refl, sym, ap, subst, ◌∙◌, arith, inl, inr}
use Rattle.std.specs.Prelude.{◌⊎◌}
use Rattle.std.proofs.lemmas.Bool.{cases_order}
use Rattle.std.proofs.lemmas.List.{length-append, length-take, take_at, take-append-le, take-take, append-nil}
use Rattle.vt_base.specs.Numbers.{IsBytes}
use Rattle.vt_base.specs.Refusing.{malformed}
use Rattle.vt_base.specs.declared.types.Why.{Why}
use Rattle.vt_base.specs.declared.types.Why.TheVariants.{Magic, Version, Length, Value, Cut, Extra}
use Rattle.vt_base.specs.declared.types.Malformed.{Malformed}
use Rattle.crb_history.specs.Snapshot.{Snapshot}
use Rattle.saved_stream.specs.Streams.{IsStream}
use Rattle.saved_stream.specs.Refusals.{IsStreamRefused}
use Rattle.saved_stream.specs.Headers.{wanted_after, EndsNoStream}
use Rattle.saved_stream.proofs.HeadersRead.{wanted_few}
use Rattle.saved_stream.proofs.laws.wanted_bytes_are_enough.Goals as goal

abbrev Behind : Type 0
Behind = (bytes : List ℕ) (place : ℕ) → IsStreamRefused (malformed Extra place) bytes → (place < length bytes) × (b : Snapshot) × IsStream (take place bytes) b

abbrev Wants : Type 0
Wants = (bytes : List ℕ) (place : ℕ) → IsBytes bytes → IsStreamRefused (malformed Cut place) bytes → 0 < wanted_after bytes

abbrev Stays : Type 0
Stays = (bytes more : List ℕ) (fault : Malformed) → IsStreamRefused fault bytes → fault.why ≢ Cut → fault.why ≢ Extra → IsStreamRefused fault (bytes ++ more)

cut_in_front : (bytes rest : List ℕ) (place : ℕ) → 0 < wanted_after bytes → (wanted_after bytes ≡ 0) ⊎ (rest ≡ []) → IsStreamRefused (malformed Cut place) bytes
    → IsStreamRefused (malformed Cut place) (bytes ++ rest)
cut_in_front bytes rest place wants (inl none) is = absurd (omega (arith, wants, none))
cut_in_front bytes rest place wants (inr none) is = let all : bytes ≡ bytes ++ rest = sym (rw none (append-nil bytes)) in subst (IsStreamRefused (malformed Cut place)) all is

in_front : Behind → Wants → Stays → (bytes rest : List ℕ) (why : Why) (place : ℕ) → IsBytes bytes → EndsNoStream bytes → (wanted_after bytes ≡ 0) ⊎ (rest ≡ [])
    → IsStreamRefused (malformed why place) bytes → IsStreamRefused (malformed why place) (bytes ++ rest) × (why ≢ Extra)
in_front behind wants stays bytes rest Extra place fits none stopped is = let inside = behind bytes place is in absurd (none place inside.1 inside.0 inside.2)
in_front behind wants stays bytes rest Cut place fits none stopped is = (cut_in_front bytes rest place (wants bytes place fits is) stopped is, λ e. cc)
in_front behind wants stays bytes rest Magic place fits none stopped is = (stays bytes rest (malformed Magic place) is (λ e. cc) (λ e. cc), λ e. cc)
in_front behind wants stays bytes rest Version place fits none stopped is = (stays bytes rest (malformed Version place) is (λ e. cc) (λ e. cc), λ e. cc)
in_front behind wants stays bytes rest Length place fits none stopped is = (stays bytes rest (malformed Length place) is (λ e. cc) (λ e. cc), λ e. cc)
in_front behind wants stays bytes rest Value place fits none stopped is = (stays bytes rest (malformed Value place) is (λ e. cc) (λ e. cc), λ e. cc)

pub returns : goal.returns
returns c =
    let laws = c.decoding_is_unique.ensures in
    record {
      start = λ place b less is. omega (arith, less);
      more = λ bytes more none few. λ place b less is.
          let whole : length (take place (bytes ++ more)) ≡ place = omega (arith, length-take place (bytes ++ more), less) in
          elim (cases_order place (length bytes)) [
            | inl e ↦
                let same : take place (bytes ++ more) ≡ bytes = take_at bytes more place (sym e) in
                omega (arith, e, few, less, length-append bytes more, laws.stops bytes b (subst (λ (t : List ℕ). IsStream t b) same is))
            | inr (inl lt) ↦
                let same : take place (bytes ++ more) ≡ take place bytes = take-append-le place bytes more (omega (arith, lt)) in
                none place b lt (subst (λ (t : List ℕ). IsStream t b) same is)
            | inr (inr gt) ↦
                let inside : length bytes < length (take place (bytes ++ more)) = omega (arith, gt, whole) in
                let front : take (length bytes) (take place (bytes ++ more)) ≡ bytes = take-take (length bytes) place (bytes ++ more) (omega (arith, gt)) ∙ take_at bytes more (length bytes) refl in
                omega (arith, whole, few, less, length-append bytes more, ap wanted_after front, laws.within (take place (bytes ++ more)) b (length bytes) is inside)
          ];
      few = wanted_few;
      refused = λ bytes rest fault fits none stopped is. in_front laws.behind laws.cut_wants laws.stays bytes rest fault.why fault.place fits none stopped is;
    }
