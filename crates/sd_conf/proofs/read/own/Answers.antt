use Rattle.std.proofs.Common.{inr, inl, refl, Ok, Err, codes, unwrap_or}
use Rattle.toml.specs.Data.{get_member}
use Rattle.toml.specs.View.{table_view}
use Rattle.sd_conf.specs.Conf.{own_of}
use Rattle.sd_conf.specs.FirstFault.{OwnFault, SpoolTest, QueueTest, PortTest, HostTest, SpoolFolderTest, spool_of}
use Rattle.sd_conf.specs.Limits.{default_host}
use Rattle.sd_conf.specs.Values.{number_or, text_at}
use Rattle.sd_conf.specs.declared.conf.OwnConf.{OwnConf}
use Rattle.sd_conf.proofs.ConfLemmas.{first_fails, volume_beside, spool_beside, folder_beside, own_read}
use Rattle.sd_conf.proofs.ToldLemmas.{passed}
use Rattle.sd_conf.proofs.read.own.Goals as goal

pub returns-in_err-spool : goal.returns-in_err-spool
returns-in_err-spool c =
    let table = table_view c.args.table.now in
    let fault = c.in_err-spool.field-0.0 in
    passed (λ (k : OwnConf). k) (OwnFault table) (own_of table) fault c.from_residual-in_err-spool.result c.from_residual-in_err-spool.ensures
    (first_fails (SpoolTest table) (OwnFault table) (spool_of table) (own_of table) fault
    (λ found here. inr (c.in_ok-only_known.ensures.0, inr (c.in_ok-block.ensures.told.0, inr ((volume_beside table c.in_ok-block.block (Ok c.in_ok-volume.volume) c.in_ok-block.ensures.told.1 c.in_ok-volume.ensures.told).0, inl (found, here, refl)))))
    (spool_beside table c.in_ok-block.block (Err fault) c.in_ok-block.ensures.told.1 c.in_err-spool.ensures.told))

pub returns-in_err-queue : goal.returns-in_err-queue
returns-in_err-queue c =
    let table = table_view c.args.table.now in
    let fault = c.in_err-queue.field-0.0 in
    passed (λ (k : OwnConf). k) (OwnFault table) (own_of table) fault c.from_residual-in_err-queue.result c.from_residual-in_err-queue.ensures
    (first_fails (QueueTest table) (OwnFault table) (number_or 8 (get_member (codes "queue") table)) (own_of table) fault
    (λ found here. inr (c.in_ok-only_known.ensures.0, inr (c.in_ok-block.ensures.told.0, inr ((volume_beside table c.in_ok-block.block (Ok c.in_ok-volume.volume) c.in_ok-block.ensures.told.1 c.in_ok-volume.ensures.told).0, inr ((spool_beside table c.in_ok-block.block (Ok c.in_ok-spool.spool) c.in_ok-block.ensures.told.1 c.in_ok-spool.ensures.told).0, inl (found, here, refl))))))
    c.in_err-queue.ensures.told)

pub returns-in_err-port : goal.returns-in_err-port
returns-in_err-port c =
    let table = table_view c.args.table.now in
    let fault = c.in_err-port.field-0.0 in
    passed (λ (k : OwnConf). k) (OwnFault table) (own_of table) fault c.from_residual-in_err-port.result c.from_residual-in_err-port.ensures
    (first_fails (PortTest table) (OwnFault table) (number_or 9103 (get_member (codes "port") table)) (own_of table) fault
    (λ found here. inr (c.in_ok-only_known.ensures.0, inr (c.in_ok-block.ensures.told.0, inr ((volume_beside table c.in_ok-block.block (Ok c.in_ok-volume.volume) c.in_ok-block.ensures.told.1 c.in_ok-volume.ensures.told).0, inr ((spool_beside table c.in_ok-block.block (Ok c.in_ok-spool.spool) c.in_ok-block.ensures.told.1 c.in_ok-spool.ensures.told).0, inr (c.in_ok-queue.ensures.told.0, inl (found, here, refl)))))))
    c.in_err-port.ensures.told)

pub returns-in_err-host : goal.returns-in_err-host
returns-in_err-host c =
    let table = table_view c.args.table.now in
    let fault = c.in_err-host.field-0.0 in
    passed (λ (k : OwnConf). k) (OwnFault table) (own_of table) fault c.from_residual-in_err-host.result c.from_residual-in_err-host.ensures
    (first_fails (HostTest (get_member (codes "host") table)) (OwnFault table) (unwrap_or (text_at (get_member (codes "host") table)) default_host) (own_of table) fault
    (λ found here. inr (c.in_ok-only_known.ensures.0, inr (c.in_ok-block.ensures.told.0, inr ((volume_beside table c.in_ok-block.block (Ok c.in_ok-volume.volume) c.in_ok-block.ensures.told.1 c.in_ok-volume.ensures.told).0, inr ((spool_beside table c.in_ok-block.block (Ok c.in_ok-spool.spool) c.in_ok-block.ensures.told.1 c.in_ok-spool.ensures.told).0, inr (c.in_ok-queue.ensures.told.0, inr (c.in_ok-port.ensures.told.0, inl (found, here, refl))))))))
    c.in_err-host.ensures)

pub returns-in_err-spool_folder : goal.returns-in_err-spool_folder
returns-in_err-spool_folder c =
    let table = table_view c.args.table.now in
    let fault = c.in_err-spool_folder.field-0.0 in
    passed (λ (k : OwnConf). k) (OwnFault table) (own_of table) fault c.from_residual-in_err-spool_folder.result c.from_residual-in_err-spool_folder.ensures
    (first_fails (SpoolFolderTest table) (OwnFault table) (text_at (get_member (codes "spool_folder") table)) (own_of table) fault
    (λ found here. inr (c.in_ok-only_known.ensures.0, inr (c.in_ok-block.ensures.told.0, inr ((volume_beside table c.in_ok-block.block (Ok c.in_ok-volume.volume) c.in_ok-block.ensures.told.1 c.in_ok-volume.ensures.told).0, inr ((spool_beside table c.in_ok-block.block (Ok c.in_ok-spool.spool) c.in_ok-block.ensures.told.1 c.in_ok-spool.ensures.told).0, inr (c.in_ok-queue.ensures.told.0, inr (c.in_ok-port.ensures.told.0, inr (c.in_ok-host.ensures.0, here))))))))
    (folder_beside table c.in_ok-spool.spool (Err fault) c.in_ok-spool.ensures.told.1 c.in_err-spool_folder.ensures))

pub returns : goal.returns
returns c =
    let table = table_view c.args.table.now in (
      inr (c.in_ok-only_known.ensures.0, inr (c.in_ok-block.ensures.told.0, inr ((volume_beside table c.in_ok-block.block (Ok c.in_ok-volume.volume) c.in_ok-block.ensures.told.1 c.in_ok-volume.ensures.told).0, inr ((spool_beside table c.in_ok-block.block (Ok c.in_ok-spool.spool) c.in_ok-block.ensures.told.1 c.in_ok-spool.ensures.told).0, inr (c.in_ok-queue.ensures.told.0, inr (c.in_ok-port.ensures.told.0, inr (c.in_ok-host.ensures.0, (folder_beside table c.in_ok-spool.spool (Ok c.in_ok-spool_folder.spool_folder) c.in_ok-spool.ensures.told.1 c.in_ok-spool_folder.ensures).0))))))),
      own_read table c.in_ok-block.block c.in_ok-volume.volume c.in_ok-spool.spool c.in_ok-queue.queue c.in_ok-port.port c.in_ok-host.host c.in_ok-spool_folder.spool_folder
          c.in_ok-block.ensures.told.1 c.in_ok-volume.ensures.told.1 c.in_ok-spool.ensures.told.1 c.in_ok-queue.ensures.told.1 c.in_ok-port.ensures.told.1 c.in_ok-host.ensures.1 c.in_ok-spool_folder.ensures.1,
    )
