-- What is kept, where one host changes and a message may be sent.
use Rattle.std.proofs.Common.{◌≡◌, ◌≢◌, ℕ, zero, suc, ◌≤◌, ◌⊎◌, inl, inr, List, [], ◌∷◌, ◌++◌, Some, sym, subst, arith, append-nil}
use Rattle.std.specs.Prelude.{slice_get}
use Rattle.crb_history.specs.Snapshot.{Snapshot}
use Rattle.two_hosts.specs.Deliveries.{SideState}
use Rattle.two_hosts.specs.Invariant.{IsSent, Sides, Says, IsConsistent, Clash, PairInvariant}
use Rattle.vt_base.specs.declared.types.HostName.{HostName}
use Rattle.move_codec.specs.declared.message.Message.{Message}
use Rattle.move_codec.specs.declared.message.Body.{Body}
use Rattle.move_codec.specs.declared.message.Body.TheVariants as body

-- what is sent after one more message: what was sent, or that message
pub sent_cases : (sent : List Message) (m z : Message) (k : ℕ) → slice_get (sent ++ m ∷ []) k ≡ Some z → IsSent sent z ⊎ (z ≡ m)
sent_cases [] m z zero is = inr cc
sent_cases [] m z (suc k) is = absurd cc
sent_cases (x ∷ xs) m z zero is = inl (0, is)
sent_cases (x ∷ xs) m z (suc k) is = go (sent_cases xs m z k is)
  where
    go : IsSent xs z ⊎ (z ≡ m) → IsSent (x ∷ xs) z ⊎ (z ≡ m)
    go (inl (j, at)) = inl (suc j, at)
    go (inr same) = inr same

pub not_itself : (b : Body) → Clash b b → ⊥
not_itself (body.Offer totals) h = h
not_itself (body.Need part offset) h = h
not_itself (body.Piece part offset bytes) h = h
not_itself body.Prepared h = h
not_itself body.Commit h = h
not_itself body.Abort h = h
not_itself (body.Refuse why value) h = h

pub clash_back : (b c : Body) → Clash b c → Clash c b
clash_back body.Commit body.Abort h = tt
clash_back body.Abort body.Commit h = tt
clash_back body.Commit body.Commit h = absurd h
clash_back body.Commit body.Prepared h = absurd h
clash_back body.Commit (body.Offer totals) h = absurd h
clash_back body.Commit (body.Need part offset) h = absurd h
clash_back body.Commit (body.Piece part offset bytes) h = absurd h
clash_back body.Commit (body.Refuse why value) h = absurd h
clash_back body.Abort body.Abort h = absurd h
clash_back body.Abort body.Prepared h = absurd h
clash_back body.Abort (body.Offer totals) h = absurd h
clash_back body.Abort (body.Need part offset) h = absurd h
clash_back body.Abort (body.Piece part offset bytes) h = absurd h
clash_back body.Abort (body.Refuse why value) h = absurd h
clash_back (body.Offer totals) c h = absurd h
clash_back (body.Need part offset) c h = absurd h
clash_back (body.Piece part offset bytes) c h = absurd h
clash_back body.Prepared c h = absurd h
clash_back (body.Refuse why value) c h = absurd h

-- what messages said of the hosts is still so
pub record Carries (n k n' k' : HostName) (x y x' y' : SideState) (offered offered' : ℕ → Snapshot) : Type 0 where
  pub top : x.top ≤ x'.top
  pub parts : (e : ℕ) → e ≤ x.top → offered' e ≡ offered e
  pub prepared : (to : HostName) (e : ℕ) → e ≤ x.top → Says n k x y offered to e body.Prepared → Says n' k' x' y' offered' to e body.Prepared
  pub commit : (to : HostName) (e : ℕ) → e ≤ x.top → Says n k x y offered to e body.Commit → Says n' k' x' y' offered' to e body.Commit
  pub abort : (to : HostName) (e : ℕ) → e ≤ x.top → Says n k x y offered to e body.Abort → Says n' k' x' y' offered' to e body.Abort

pub carried : {n k n' k' : HostName} {x y x' y' : SideState} {offered offered' : ℕ → Snapshot} → Carries n k n' k' x y x' y' offered offered' → (d : Message) → IsConsistent n k x y offered d → IsConsistent n' k' x' y' offered' d
carried {n} {k} {n'} {k'} {x} {y} {x'} {y'} {offered} {offered'} c d f = record { epoch = omega (arith, c.top, f.epoch); says = go d.body f.says }
  where
    go : (b : Body) → Says n k x y offered d.to d.epoch b → Says n' k' x' y' offered' d.to d.epoch b
    go (body.Offer totals) says = rw (c.parts d.epoch f.epoch) says
    go (body.Need part offset) says = tt
    go (body.Piece part offset bytes) says = rw (c.parts d.epoch f.epoch) says
    go body.Prepared says = c.prepared d.to d.epoch f.epoch says
    go body.Commit says = c.commit d.to d.epoch f.epoch says
    go body.Abort says = c.abort d.to d.epoch f.epoch says
    go (body.Refuse why value) says = tt

-- nothing is sent
pub kept_as : {n k n' k' : HostName} {x y x' y' : SideState} {offered offered' : ℕ → Snapshot} {Present Present' : Snapshot → Type 0} {sent : List Message}
    → PairInvariant n k x y offered Present sent → Sides x' y' offered' Present' → Carries n k n' k' x y x' y' offered offered'
    → PairInvariant n' k' x' y' offered' Present' sent
kept_as old sides carries = record { sides = sides; each = λ m is. carried carries m (old.each m is); apart = old.apart }

pub kept_quiet : {n k n' k' : HostName} {x y x' y' : SideState} {offered offered' : ℕ → Snapshot} {Present Present' : Snapshot → Type 0} {sent : List Message}
    → PairInvariant n k x y offered Present sent → Sides x' y' offered' Present' → Carries n k n' k' x y x' y' offered offered'
    → PairInvariant n' k' x' y' offered' Present' (sent ++ [])
kept_quiet old sides carries = rw append-nil (kept_as old sides carries)

-- a message is sent
pub kept_sent : {n k n' k' : HostName} {x y x' y' : SideState} {offered offered' : ℕ → Snapshot} {Present Present' : Snapshot → Type 0} {sent : List Message}
    → PairInvariant n k x y offered Present sent → Sides x' y' offered' Present' → Carries n k n' k' x y x' y' offered offered'
    → (m : Message) → IsConsistent n' k' x' y' offered' m
    → ((d : Message) → IsConsistent n k x y offered d → Clash m.body d.body → m.epoch ≢ d.epoch)
    → PairInvariant n' k' x' y' offered' Present' (sent ++ m ∷ [])
kept_sent {n} {k} {n'} {k'} {x} {y} {x'} {y'} {offered} {offered'} {Present} {Present'} {sent} old sides carries m fits apart = record { sides = sides; each = λ z is. each z (sent_cases sent m z is.0 is.1); apart = λ c d is at clash. both c d (sent_cases sent m c is.0 is.1) (sent_cases sent m d at.0 at.1) clash }
  where
    each : (z : Message) → IsSent sent z ⊎ (z ≡ m) → IsConsistent n' k' x' y' offered' z
    each z (inl is) = carried carries z (old.each z is)
    each z (inr same) = subst (λ v. IsConsistent n' k' x' y' offered' v) (sym same) fits

    both : (c d : Message) → IsSent sent c ⊎ (c ≡ m) → IsSent sent d ⊎ (d ≡ m) → Clash c.body d.body → c.epoch ≢ d.epoch
    both c d (inl is) (inl at) clash = old.apart c d is at clash
    both c d (inl is) (inr same) clash = λ e. apart c (old.each c is) (clash_back c.body m.body (subst (λ v. Clash c.body v.body) same clash)) (subst (λ v. v.epoch ≡ c.epoch) same (sym e))
    both c d (inr same) (inl at) clash = λ e. apart d (old.each d at) (subst (λ v. Clash v.body d.body) same clash) (subst (λ v. v.epoch ≡ d.epoch) same e)
    both c d (inr same) (inr at) clash = absurd (not_itself m.body (subst (λ v. Clash m.body v.body) at (subst (λ v. Clash v.body d.body) same clash)))
