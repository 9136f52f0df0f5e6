-- What a data PDU stands for.
use Rattle.protocol.specs.Pdus.{Amd}
use Rattle.rlc_rx.specs.declared.data_pdus.DataPdu.{DataPdu}
use Rattle.wire.specs.Views.{amd_of}

abbrev pub data_pdu_of : DataPdu → Amd
data_pdu_of pdu = amd_of pdu.header pdu.payload.now
