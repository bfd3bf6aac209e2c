-- What a reader has read.
use Rattle.fb_cert.specs.declared.reading.Reader.{Reader}
use Rattle.fb_cert.specs.Views.{rows_in}
use Rattle.fb_cert.specs.Reading.{Read, read}

abbrev pub read_of : Reader → Read
read_of r = read r.headed (rows_in r.lists)
