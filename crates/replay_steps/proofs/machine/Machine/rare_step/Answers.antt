use Rattle.replay_steps.proofs.Prelude.{refl, sym, ◌∙◌, ap, arith, length, Bis, Inject, Meta, Subgroup, common_steps}
use Rattle.replay_steps.proofs.StepLaws.{boxes_counted, quiet_as, tells_as, meets_as}
use Rattle.replay_steps.proofs.machine.Machine.rare_step.Goals as goal

pub returns-in-Group-clause-meets : goal.returns-in-Group-clause-meets
returns-in-Group-clause-meets g c starts steps stands e boxes =
    quiet_as starts _ steps _ _ _ _ _ _ c.in-Group.is refl refl refl refl (c.group.ensures (length starts) _ steps refl stands e)

pub returns-in-Start-clause-meets : goal.returns-in-Start-clause-meets
returns-in-Start-clause-meets g c starts steps stands e boxes =
    quiet_as starts _ steps _ _ _ _ _ _ c.in-Start.is refl refl refl refl (c.start.ensures (length starts) steps stands e)

pub returns-in-Sink-clause-meets : goal.returns-in-Sink-clause-meets
returns-in-Sink-clause-meets g c starts steps stands e boxes =
    quiet_as starts _ steps _ _ _ _ _ _ c.in-Sink.is
    (boxes_counted _ c.args.outlets.now.items starts steps c.len.result (c.len.ensures ∙ c.args.outlets.now.ok.0) boxes)
    refl refl refl (c.sink.ensures steps stands e)

pub returns-in-Tuned-clause-meets : goal.returns-in-Tuned-clause-meets
returns-in-Tuned-clause-meets g c starts steps stands e boxes =
    quiet_as starts _ steps _ _ _ _ _ _ c.in-Tuned.is refl refl refl refl (c.tuned.ensures (length starts) _ steps stands e)

pub returns-in-Stop-clause-meets : goal.returns-in-Stop-clause-meets
returns-in-Stop-clause-meets g c starts steps stands e boxes =
    meets_as starts steps _ _ _ _ _ _ _ _ c.in-Stop.is (c.stop.ensures.meets starts _ steps stands e)

pub returns-in-Inject-clause-meets : goal.returns-in-Inject-clause-meets
returns-in-Inject-clause-meets g c starts steps stands e boxes =
    tells_as starts steps _ _ _ _ _ _ _
    (c.in-Inject.is ∙ ap (Inject c.in-Inject.sink c.in-Inject.back c.in-Inject.bis c.in-Inject.subevent) (sym c.as_slice-in-Inject.ensures))
    refl refl refl (c.inject.ensures starts _ steps stands e)

pub returns-in-Sniff-clause-meets : goal.returns-in-Sniff-clause-meets
returns-in-Sniff-clause-meets g c starts steps stands e boxes =
    tells_as starts steps _ _ _ _ _ _ _ c.in-Sniff.is refl refl refl (c.sniff.ensures starts _ steps stands e)

pub returns-in-Ident-clause-meets : goal.returns-in-Ident-clause-meets
returns-in-Ident-clause-meets g c starts steps stands e boxes =
    quiet_as starts _ steps _ _ _ _ _ _ c.in-Ident.is refl refl refl refl (c.ident.ensures (length starts) _ steps stands e)

pub returns-in-Source-clause-meets : goal.returns-in-Source-clause-meets
returns-in-Source-clause-meets g c starts steps stands e boxes =
    quiet_as starts _ steps _ _ _ _ _ _ c.in-Source.is refl refl refl refl (c.choose.ensures (length starts) _ steps stands e)

pub returns-in-Subgroup-clause-meets : goal.returns-in-Subgroup-clause-meets
returns-in-Subgroup-clause-meets g c starts steps stands e boxes =
    quiet_as starts _ steps _ _ _ _ _ _ (c.in-Subgroup.is ∙ ap (Subgroup c.in-Subgroup.codec) (sym c.as_slice.ensures)) refl refl refl refl
    (c.subgroup.ensures (length starts) _ steps stands e)

pub returns-in-Meta-clause-meets : goal.returns-in-Meta-clause-meets
returns-in-Meta-clause-meets g c starts steps stands e boxes =
    quiet_as starts _ steps _ _ _ _ _ _ (c.in-Meta.is ∙ ap Meta (sym c.as_slice-in-Meta.ensures)) refl refl refl refl
    (c.meta.ensures (length starts) _ steps stands e)

pub returns-in-Bis-clause-meets : goal.returns-in-Bis-clause-meets
returns-in-Bis-clause-meets g c starts steps stands e boxes =
    quiet_as starts _ steps _ _ _ _ _ _ (c.in-Bis.is ∙ ap (Bis c.in-Bis.bis) (sym c.as_slice-in-Bis.ensures)) refl refl refl refl
    (c.bis.ensures (length starts) _ steps stands e)

pub returns-in-Cipher-clause-meets : goal.returns-in-Cipher-clause-meets
returns-in-Cipher-clause-meets g c starts steps stands e boxes =
    quiet_as starts _ steps _ _ _ _ _ _ c.in-Cipher.is refl refl refl refl (c.cipher.ensures (length starts) _ steps stands e)

pub returns-in-Relay-clause-meets : goal.returns-in-Relay-clause-meets
returns-in-Relay-clause-meets g c starts steps stands e boxes =
    quiet_as starts _ steps _ _ _ _ _ _ c.in-Relay.is refl refl refl refl (c.relay.ensures (length starts) _ steps stands e)

pub returns-in-Drop-clause-meets : goal.returns-in-Drop-clause-meets
returns-in-Drop-clause-meets g c starts steps stands e boxes =
    tells_as starts steps _ _ _ _ _ _ _ c.in-Drop.is refl refl refl (c.drop_sink.ensures starts _ steps stands e boxes)

pub returns-in-Terminate-clause-meets : goal.returns-in-Terminate-clause-meets
returns-in-Terminate-clause-meets g c starts steps stands e boxes =
    meets_as starts steps _ _ _ _ _ _ _ _ c.in-Terminate.is (c.terminate.ensures.meets starts _ steps stands e)

pub unreachable-requires : goal.unreachable-requires
unreachable-requires g c = grind (arith, common_steps)
