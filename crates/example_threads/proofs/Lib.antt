mod Writers
