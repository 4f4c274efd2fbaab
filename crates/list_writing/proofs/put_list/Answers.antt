-- `list_writing::put_list` meets its contract: head, component lines and ENDENDEND stand one behind the other, and are the text.
use Rattle.list_writing.proofs.Sizes.{head_room, lines_room, end_room, line_end_room, text-put}
use Rattle.list_writing.proofs.put_list.Goals as goal

pub put_head-lines-requires : goal.put_head-lines-requires
put_head-lines-requires c = head_room _ _ _ c.requires

pub put_lines-last-requires : goal.put_lines-last-requires
put_lines-last-requires c = lines_room _ _ _ c.requires c.put_head-lines.ensures

pub put_bytes-end-requires : goal.put_bytes-end-requires
put_bytes-end-requires c = end_room _ _ _ c.requires c.put_head-lines.ensures c.put_lines-last.ensures

pub put_bytes-requires : goal.put_bytes-requires
put_bytes-requires c = line_end_room _ _ _ c.requires c.put_head-lines.ensures c.put_lines-last.ensures c.put_bytes-end.ensures

pub returns : goal.returns
returns c = text-put _ _ _ c.requires c.put_head-lines.ensures c.put_lines-last.ensures c.put_bytes-end.ensures c.put_bytes.ensures
