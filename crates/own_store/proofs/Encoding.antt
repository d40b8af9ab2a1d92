-- A body that an entry was encoded in is decoded as that entry.
use Rattle.std.proofs.Common.{◌≡◌, ◌<◌, ◌≤◌, ◌+◌, ◌^◌, ℕ, List, ◌++◌, length, take, drop, Some, refl, sym, ◌∙◌, ap, arith, take-append-drop}
use Rattle.std.specs.Int.{w16, w64, from_be_bytes, to_be_bytes}
use Rattle.vt_base.specs.Numbers.{big_endian_at}
use Rattle.std.proofs.lemmas.Bool.Decides.{nat_tests}
use Rattle.std.proofs.lemmas.Nat.{from_be_bytes-to_be_bytes_2, from_be_bytes-to_be_bytes_8}
use Rattle.std.proofs.lemmas.List.{take_at}
use Rattle.own_store.specs.Body.{role_byte, role_of, stored_by, stored_as, stored_in, encode_entry}
use Rattle.own_store.specs.declared.entry.Entry.{Entry}
use Rattle.own_store.specs.declared.entry.Role.{Role}
use Rattle.own_store.specs.declared.entry.Role.TheVariants.{Empty, Running, Released, Prepared}

role_back : (role : Role) → role_of (role_byte role) ≡ Some role
role_back Empty = refl
role_back Running = refl
role_back Released = refl
role_back Prepared = refl

in_range : (role : Role) (body : List ℕ) (size : ℕ) → size ≤ 7285
    → stored_by role body size ≡ Some (record {
      version = big_endian_at w64 0 body;
      entry = record { role = role; top = big_endian_at w64 9 body; stream = take size (drop 19 body) };
    })
in_range role body size le = grind (arith, nat_tests)

decodes_encoded : (version : ℕ) (e : Entry) (rest : List ℕ) → version < 2 ^ 64 → e.top < 2 ^ 64 → length e.stream ≤ 7285
    → stored_in (encode_entry version e ++ rest) ≡ Some (record { version = version; entry = e })
unfolding stored_in
decodes_encoded version e rest fits top limit =
    let body = encode_entry version e ++ rest in
    let size : from_be_bytes w16 (to_be_bytes w16 (length e.stream)) ≡ length e.stream = from_be_bytes-to_be_bytes_2 (length e.stream) (omega arith) in
    (λ i. stored_as (role_back e.role i) body)
    ∙ (λ i. stored_by e.role body (size i))
    ∙ in_range e.role body (length e.stream) limit
    ∙ (λ i. Some (record {
      version = from_be_bytes-to_be_bytes_8 version fits i;
      entry = record { role = e.role; top = from_be_bytes-to_be_bytes_8 e.top top i; stream = take_at e.stream rest (length e.stream) refl i };
    }))

pub decodes : (version : ℕ) (e : Entry) (body : List ℕ) → version < 2 ^ 64 → e.top < 2 ^ 64 → length e.stream ≤ 7285 → take (19 + length e.stream) body ≡ encode_entry version e
    → stored_in body ≡ Some (record { version = version; entry = e })
decodes version e body fits top limit front =
    let whole : body ≡ encode_entry version e ++ drop (19 + length e.stream) body =
    sym (take-append-drop (19 + length e.stream) body) ∙ ap (λ (l : List ℕ). l ++ drop (19 + length e.stream) body) front in
    ap stored_in whole ∙ decodes_encoded version e (drop (19 + length e.stream) body) fits top limit
