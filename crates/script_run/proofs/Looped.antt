-- What the loop over the lines leaves, as each command reads its input.
use Rattle.std.proofs.Common.{◌≡◌, ◌≢◌, ℕ, List, [], ◌∷◌, ◌++◌, length, take, map, refl, sym, ap, subst, ◌∙◌, Some, None, Option, inl}
use Rattle.std.specs.Prelude.{IfSome, IfNone, unwrap_or}
use Rattle.vt_base.specs.declared.status.Status.{Status}
use Rattle.vt_base.specs.declared.status.Status.TheVariants.{Ok}
use Rattle.vt_script.specs.Script.{lines_of, event_of}
use Rattle.vt_script.specs.Drive.{drive_of}
use Rattle.line_loop.specs.Inputs.{InputReading}
use Rattle.line_loop.specs.Actors.{GivesBy, done_by, HasEnded}
use Rattle.crb_history.specs.Snapshot.{Snapshot}
use Rattle.two_hosts.specs.Hosts.{first_hosts}
use Rattle.two_seats.specs.Both.{FollowsBoth}
use Rattle.script_run.specs.Ends.{HandsOut, HandsWorld, HandsPair, AreDriveLines, end_by}
use Rattle.script_run.specs.Loop.{Replies, Drives}
use Rattle.script_run.specs.Output.{SinkView}
use Rattle.script_run.specs.Run.{Leaves, RepliesTo, Responses, followed, driven_by, meanings}
use Rattle.script_run.specs.declared.replay.Replayer.{Replayer}
use Rattle.script_run.specs.declared.drive.DrivenPair.{DrivenPair}
use Rattle.script_run.specs.declared.ran.End.TheVariants.{World, Pair}
use Rattle.script_run.proofs.Endings.{leaves-too}
use Rattle.script_run.proofs.Prefixes.{replied-gives, responded-gives, all-first}
use Rattle.script_run.proofs.Handing.{early-out, hands-world, hands-pair}

-- ---- replies

module _ (b : Snapshot) (piece : ℕ) (first now : Replayer) (left : Option (List ℕ)) (a c : SinkView) (follows : FollowsBoth b piece (first_hosts b) first.world) where
  given : (script : List ℕ) (n : ℕ) (output : List ℕ) → GivesBy Replies first script n output → RepliesTo b piece script n output
  given script n output g = replied-gives b piece script g.lines output g.now.world n g.are g.count (g.goes_here b piece follows)

  pub followed-leaves : (input : Option (List ℕ)) (end : Option Status) → IfNone end (HasEnded Replies first now input a c)
      → IfSome end (λ s. IfSome input (λ script. Leaves s (done_by Replies (λ line. event_of line ≡ None) first script) left a c)) → IfSome input (λ script. Leaves (unwrap_or end Ok) (followed b piece script) left a c)
  followed-leaves None end ended stopped = tt
  followed-leaves (Some script) None e stopped =
      let all = all-first script e.lines e.all.1 in
      (e.output, e.wrote, (refl, e.all.0, replied-gives b piece script e.lines e.output now.world (length (lines_of script)) all.0 all.1 (e.goes_here b piece follows)))
  followed-leaves (Some script) (Some s) e stopped =
      leaves-too (done_by Replies (λ line. event_of line ≡ None) first script) (followed b piece script) (given script) (λ n bad. bad) (λ n text passes. passes)
      (λ output rest fault. (fault.0, given script fault.0 output fault.1, fault.2)) (λ status output ends. inl (length (lines_of script), given script (length (lines_of script)) output ends.2)) s left a c
      (λ output ends. (ends.0, ends.1, given script (length (lines_of script)) output ends.2)) stopped

  pub followed-hands : (input : Option (List ℕ)) (end : Option Status) → IfNone end (HasEnded Replies first now input a c) → IfSome end (λ s. s ≢ Ok)
      → IfSome input (λ script. HandsOut (HandsWorld b piece script) (unwrap_or end Ok) (end_by (unwrap_or end Ok) (World now.world)))
  followed-hands None end ended not_ok = tt
  followed-hands (Some script) None e not_ok = hands-world b piece script e.lines e.output now.world e.all.1 (e.goes_here b piece follows)
  followed-hands (Some script) (Some s) e not_ok = early-out (HandsWorld b piece script) s (World now.world) not_ok

-- ---- responses

module _ (first now : DrivenPair) (left : Option (List ℕ)) (a c : SinkView) where
  answered : (script : List ℕ) (n : ℕ) (output : List ℕ) → GivesBy Drives first script n output → Responses first.start script n output
  answered script n output g = responded-gives first.start script g.lines output g.now.pair n g.are g.count g.goes_here.1

  pub driven-leaves : (input : Option (List ℕ)) (end : Option Status) → IfNone end (HasEnded Drives first now input a c)
      → IfSome end (λ s. IfSome input (λ script. Leaves s (done_by Drives (λ line. drive_of line ≡ None) first script) left a c)) → IfSome input (λ script. Leaves (unwrap_or end Ok) (driven_by first.start script) left a c)
  driven-leaves None end ended stopped = tt
  driven-leaves (Some script) None e stopped =
      let all = all-first script e.lines e.all.1 in
      (e.output, e.wrote, (refl, e.all.0, responded-gives first.start script e.lines e.output now.pair (length (lines_of script)) all.0 all.1 e.goes_here.1))
  driven-leaves (Some script) (Some s) e stopped =
      leaves-too (done_by Drives (λ line. drive_of line ≡ None) first script) (driven_by first.start script) (answered script) (λ n bad. bad) (λ n text passes. passes)
      (λ output rest fault. (fault.0, answered script fault.0 output fault.1, fault.2)) (λ status output ends. inl (length (lines_of script), answered script (length (lines_of script)) output ends.2)) s left a c
      (λ output ends. (ends.0, ends.1, answered script (length (lines_of script)) output ends.2)) stopped

  pub driven-hands : (input : Option (List ℕ)) (end : Option Status) → IfNone end (HasEnded Drives first now input a c) → IfSome end (λ s. s ≢ Ok)
      → IfSome input (λ script. HandsOut (HandsPair first.start (AreDriveLines script)) (unwrap_or end Ok) (end_by (unwrap_or end Ok) (Pair now.pair)))
  driven-hands None end ended not_ok = tt
  driven-hands (Some script) None e not_ok =
      let d = e.goes_here.1 in
      let all : AreDriveLines script d.done = sym d.are ∙ ap (map drive_of) e.all.1 in
      hands-pair first.start (AreDriveLines script) d.done now.pair all d.driven
  driven-hands (Some script) (Some s) e not_ok = early-out (HandsPair first.start (AreDriveLines script)) s (Pair now.pair) not_ok
