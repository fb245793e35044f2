mod Empty
mod HonestFile
mod Serves
