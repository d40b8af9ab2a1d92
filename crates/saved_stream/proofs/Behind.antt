-- What goes on behind a stream begins with one.
use Rattle.std.proofs.Common.{ℕ, ◌+◌, ◌<◌, List, [], ◌∷◌, length, take, drop, refl, sym, ap, inl, inr}
use Rattle.vt_base.specs.Refusing.{malformed}
use Rattle.vt_base.specs.declared.types.Why.TheVariants.{Extra}
use Rattle.vt_base.specs.declared.types.Malformed.{Malformed}
use Rattle.crb_history.specs.Snapshot.{Snapshot}
use Rattle.saved_stream.specs.declared.part.Part.{Part}
use Rattle.saved_stream.specs.Parts.{parts as all_parts}
use Rattle.saved_stream.specs.Streams.{IsStream}
use Rattle.saved_stream.specs.Refusals.{head, ArePartsRefused, IsStreamRefused}
use Rattle.saved_stream.proofs.Heads.{IsOfHead, only_refusals, head_refuses}

-- no refusal of a part says of bytes behind the stream
parts_end : (parts : List Part) (at place : ℕ) (bytes : List ℕ) → ArePartsRefused parts at (malformed Extra place) bytes → ⊥
parts_end [] at place bytes refused = refused
parts_end (part ∷ parts) at place bytes (inl stopped) = stopped.not_behind (sym (ap (λ (f : Malformed). f.why) stopped.named))
parts_end (part ∷ parts) at place bytes (inr (prefix, after, is, whole, refused)) = parts_end parts (at + length prefix) place after refused

pub goes_behind : (bytes : List ℕ) (place : ℕ) → IsStreamRefused (malformed Extra place) bytes → (place < length bytes) × (b : Snapshot) × IsStream (take place bytes) b
goes_behind bytes place (inl (n, exact)) = absurd ((only_refusals IsOfHead head (malformed Extra place) (take n bytes) head_refuses exact).1 refl)
goes_behind bytes place (inr (inl (whole, refused))) = absurd (parts_end all_parts 9 place (drop 9 bytes) refused)
goes_behind bytes place (inr (inr row)) = row
