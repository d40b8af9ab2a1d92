use Rattle.hand_over.proofs.Offering.{offered, drained}
use Rattle.hand_over.proofs.bridge.hosts_follow_the_model.Goals as goal

pub returns-clause-offer : goal.returns-clause-offer
returns-clause-offer g c = λ size h new w v l s m is stands field t tpm offers. offered _ size h w v l s m new is stands field t tpm offers

pub returns-clause-drained : goal.returns-clause-drained
returns-clause-drained g c = λ size h new w v l s m is stands field t tpm drains offers. drained _ size h w v l s m new is stands field t tpm drains offers
