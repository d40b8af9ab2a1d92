use Rattle.std.proofs.Common.{◌≡◌, take}
use Rattle.tpm_core.specs.Capabilities.{page}
use Rattle.tpm_more.specs.Entries.{entries_of}
use Rattle.tpm_more.proofs.Encoding.{given_is, page_body, more_is}
use Rattle.tpm_more.proofs.capabilities.page.Goals as goal

pub returns : goal.returns
returns c =
    let list = entries_of c.args.entries.now in
    let found = c.from_key-found.result.now in
    let given : entries_of (take c.min.result found) ≡ page c.args.property c.args.room list = given_is c.args.room c.min.result found _ c.from_key-found.ensures.found c.min.ensures in
    let more = more_is c.args.property c.args.room c.more_byte.result list found c.from_key-found.ensures.found c.more_byte.ensures in
    rw (c.push_entries.ensures, c.push-3.ensures.appended, c.push-2.ensures.appended, c.push.ensures.appended, c.new-body.ensures.empty, c.to_be_bytes.ensures, c.to_be_bytes-2.ensures)
    (page_body c.args.capability c.args.property c.args.room c.more_byte.result (take c.min.result found) list more given)
